-- For this crate alone: how a table of tickets hashes them. No contract of a table depends on it.
use Rattle.std.specs.Prelude.{ℕ, ◌*◌, ◌/◌, ◌%◌, ◌^◌, List, [], ◌∷◌, length, slice_index}
use Rattle.std.specs.Prelude.{nat_lt, if◌then◌else◌, bit_xor}
use Rattle.std.specs.Int.{w64, from_le_bytes}
use Rattle.flume_state.specs.declared.places.ticket_hash.TicketHasher.{TicketHasher}

-- the hash of the eights of a ticket, and which of the eight it is
abbrev pub hash_of : ℕ → ℕ
hash_of ticket = bit_xor
    ((ticket / 8 * 0x9e37_79b9_7f4a_7c15) % 2 ^ 64 / 2 ^ 32)
    ((ticket % 8 * 2 ^ 29) % 2 ^ 64)

-- the number of the first eight bytes, the lowest first
abbrev pub number_of_bytes : List ℕ → ℕ
number_of_bytes bytes = from_le_bytes w64 (
    slice_index bytes 0 ∷ slice_index bytes 1 ∷ slice_index bytes 2 ∷ slice_index bytes 3
    ∷ slice_index bytes 4 ∷ slice_index bytes 5 ∷ slice_index bytes 6 ∷ slice_index bytes 7 ∷ [])

-- the hasher after these bytes, of which a ticket has eight
abbrev pub after_write : TicketHasher → List ℕ → TicketHasher
after_write hasher bytes =
    if nat_lt (length bytes) 8 then hasher else record { hash = hash_of (number_of_bytes bytes) }
