-- What a trace and its claims own, before and after each function. Assumes `Logic`.
use Rattle.std.proofs.Common.{ℕ, List, [], ◌∷◌, ◌++◌, length, inl, inr, ◌⊎◌, length-append}
use Rattle.std.proofs.lemmas.List.{append-nil}
use mathlib.Core.List.{IsPrefix}
use seplogic.Ra.Ura.{Ura}
use base.Fraction.{full_share}
use base.Stored.{Gv, Coded, coded_list}
use base.Logic.{SProp, ent, sep, ex, guard, emp, via}
use base.Fml.{Fml}
use base.Growing.{latest, at_least, Least, prefix_refl}
use types.Logic.{Logic, sem}
use types.Owned.{basic}
use types.Keyed.{token, tickets_from, entries_new}
use types.Growing.{latest_new, latest_grows, latest_shows, latest_bounds, at_least_dup, at_least_join}
use types.Kit.{‵, ◌⊛◌, some, given, later, ◌$◌, ◌∵◌, !, qed, by, move, drop, split, fjoin, pick}
use types.Kit.{learn, show, check, frame, done, use0, use1, use2, updating, await, now}
use denote.Steps.{nothing}
use Rattle.flume_trace.specs.Positions.{AreApart, AreBelow, positions_from}
use Rattle.flume_trace.specs.Tokens.{growing, codes, tickets_of, unopened_owns, trace_owns, claim_owns}
use Rattle.flume_trace.proofs.PrefixLemmas.{decoded_prefix, coded_prefix, coded_in_line}
use Rattle.flume_trace.proofs.TicketLemmas.{are_apart, are_below, are_taken, are_joined}

module _ {M : Type 1} {𝓤 : Ura M} (𝓛 : Logic 𝓤) where
  open 𝓛 use {H}

  abbrev ◌⊢◌ : SProp 𝓤 → SProp 𝓤 → Type 1
  P ⊢ Q = ent 𝓤 P Q

  abbrev ◌∗◌ : SProp 𝓤 → SProp 𝓤 → SProp 𝓤
  P ∗ Q = sep 𝓤 P Q

  abbrev ⟦◌⟧ : Fml → SProp 𝓤
  ⟦ P ⟧ = sem 𝓛 P

  infix 26 ◌⊢◌
  infixr 35 ◌∗◌
  -- an empty trace under two names
  abbrev Made : ℕ × ℕ → SProp 𝓤
  Made names = ⟦ unopened_owns names.0 names.1 ⟧

  -- an empty trace is made of nothing
  pub is_made : emp 𝓤 ⊢ H.⇛ (ex 𝓤 Made)
  unfolding unopened_owns
  is_made = qed 𝓛 [] ∵ updating ! $
      use0 𝓛 (later (some (λ (γ : ℕ). ‵ (latest growing full_share γ []))))
      (via 𝓤 _ (latest_new growing 𝓛 []) (basic 𝓛 _)) $ await ! tt $ pick ! (λ γ.
      use0 𝓛 (later (some (λ (δ : ℕ). ‵ (tickets_from δ 0))))
      (via 𝓤 _ (entries_new token 𝓛 0 (λ _. tt)) (basic 𝓛 _)) $ await ! tt $ pick ! (λ δ.
      move ! (1 ∷ 0 ∷ []) $ fjoin ! $ now ! $ show ! Made (γ, δ) $ done !))

  module _ {E : Type 0} (c : Coded E) (γ δ : ℕ) where
    -- the type of writes has a code
    abbrev coded_write : Coded (List E)
    coded_write = coded_list c

    -- the right to append to these writes
    abbrev Latest : List (List E) → Fml
    Latest writes = latest growing full_share γ (codes c.code writes)

    -- that the trace begins with these writes
    abbrev Begins : List (List E) → Fml
    Begins seen = at_least growing γ (codes c.code seen)

    -- what a trace owns
    abbrev Trace : List (List E) → Fml
    Trace writes = trace_owns c.code γ δ writes

    -- what a claim owns
    abbrev Claim : List (List E) → List ℕ → Fml
    Claim seen ps = claim_owns c.code γ δ seen ps

    -- whoever may append to the writes sees them
    is_seen : (writes : List (List E)) → ⟦ Latest writes ⟧ ⊢ ⟦ Latest writes ⟧ ∗ ⟦ Begins writes ⟧
    is_seen writes = let cs : List Gv = codes c.code writes in
        latest_shows growing 𝓛 full_share γ cs cs (prefix_refl cs)

    -- an empty trace gets a name, and the claim that has seen nothing
    pub is_opened : ⟦ unopened_owns γ δ ⟧ ⊢ ⟦ Trace [] ⟧ ∗ ⟦ Claim [] [] ⟧
    unfolding unopened_owns trace_owns claim_owns
    is_opened = qed 𝓛 (‵ (Latest []) ∷ ‵ (tickets_from δ 0) ∷ []) ∵
        use1 𝓛 (‵ (Latest []) ⊛ ‵ (Begins [])) (is_seen []) $ split ! $
        move ! (0 ∷ 2 ∷ []) $ fjoin ! $ frame ! $ nothing ! $ move ! (1 ∷ 0 ∷ []) $ fjoin ! $ done !

    -- what a claim shows of itself and of the trace
    abbrev pub Shown : List (List E) → List (List E) → List ℕ → Type 0
    Shown writes seen ps = IsPrefix seen writes × AreBelow (length writes) ps × AreApart ps

    -- writes are appended, and their positions are the claim's
    pub are_appended : (writes more seen : List (List E)) (ps : List ℕ)
        → ⟦ Trace writes ⟧ ∗ ⟦ Claim seen ps ⟧ ⊢ H.⇛ (guard 𝓤 (Shown writes seen ps)
        (⟦ Trace (writes ++ more) ⟧
        ∗ ⟦ Claim (writes ++ more) (ps ++ positions_from (length writes) more) ⟧))
    unfolding trace_owns claim_owns
    are_appended writes more seen ps =
        let n : ℕ = length writes in
        let new : List ℕ = positions_from n more in
        let all : List (List E) = writes ++ more in
        qed 𝓛 ((‵ (Latest writes) ⊛ ‵ (tickets_from δ n))
        ∷ ‵ (Begins seen) ∷ ‵ (tickets_of δ ps) ∷ []) ∵
        updating ! $ split ! $ move ! (0 ∷ 2 ∷ []) $
        use2 𝓛 (given (IsPrefix (codes c.code seen) (codes c.code writes))
        (‵ (Latest writes) ⊛ ‵ (Begins seen)))
        (latest_bounds growing 𝓛 full_share γ (codes c.code writes) (codes c.code seen)) $
        learn ! (λ begins. split ! $ move ! (3 ∷ 2 ∷ []) $
        -- [the tickets of ps; those from n on; the right to append; what was seen]
        use2 𝓛 (given (AreBelow n ps) (‵ (tickets_of δ ps) ⊛ ‵ (tickets_from δ n)))
        (are_below 𝓛 δ n ps) $ learn ! (λ below. split ! $
        use1 𝓛 (given (AreApart ps) (‵ (tickets_of δ ps))) (are_apart 𝓛 δ ps) $
        learn ! (λ apart. move ! (1 ∷ []) $
        use1 𝓛 (‵ (tickets_of δ new) ⊛ ‵ (tickets_from δ (length all)))
        (are_taken 𝓛 δ n (length all) more (length-append writes more)) $
        split ! $ move ! (2 ∷ 0 ∷ []) $
        use2 𝓛 (‵ (tickets_of δ (ps ++ new))) (are_joined 𝓛 δ ps new) $ move ! (2 ∷ []) $
        use1 𝓛 (later (‵ (Latest all))) (via 𝓤 _ (latest_grows growing 𝓛 γ (codes c.code writes)
        (codes c.code all) (coded_prefix coded_write writes more)) (basic 𝓛 _)) $ await ! tt $
        use1 𝓛 (‵ (Latest all) ⊛ ‵ (Begins all)) (is_seen all) $ split ! $
        -- [the right to append; what is seen; the tickets of ps and new; those left; what was seen]
        move ! (0 ∷ 3 ∷ []) $ fjoin ! $ move ! (3 ∷ []) $ drop ! $ move ! (1 ∷ 2 ∷ []) $ fjoin ! $
        now ! $ check ! (decoded_prefix coded_write seen writes begins, below, apart) $
        move ! (1 ∷ []) $ frame ! $ done !)))

    -- what was seen can be had twice
    pub is_split : (seen : List (List E)) (ps : List ℕ)
        → ⟦ Claim seen ps ⟧ ⊢ ⟦ Claim seen ps ⟧ ∗ ⟦ Claim seen [] ⟧
    unfolding claim_owns
    is_split seen ps = qed 𝓛 (‵ (Begins seen) ∷ ‵ (tickets_of δ ps) ∷ []) ∵
        use1 𝓛 (‵ (Begins seen) ⊛ ‵ (Begins seen)) (at_least_dup growing 𝓛 γ (codes c.code seen)) $
        split ! $ move ! (0 ∷ 2 ∷ []) $ fjoin ! $ frame ! $
        nothing ! $ move ! (1 ∷ 0 ∷ []) $ fjoin ! $ done !

    -- of what two claims have seen, one begins the other
    are_in_line : (xs ys : List (List E)) → ⟦ Begins xs ⟧ ∗ ⟦ Begins ys ⟧
        ⊢ guard 𝓤 (IsPrefix xs ys ⊎ IsPrefix ys xs) (⟦ Begins xs ⟧ ∗ ⟦ Begins ys ⟧)
    are_in_line xs ys =
        let a : List Gv = codes c.code xs in
        let b : List Gv = codes c.code ys in
        qed 𝓛 (‵ (Begins xs) ∷ ‵ (Begins ys) ∷ []) ∵
        use1 𝓛 (‵ (Begins xs) ⊛ ‵ (Begins xs)) (at_least_dup growing 𝓛 γ a) $ split ! $
        move ! (2 ∷ []) $
        use1 𝓛 (‵ (Begins ys) ⊛ ‵ (Begins ys)) (at_least_dup growing 𝓛 γ b) $ split ! $
        move ! (2 ∷ 0 ∷ []) $
        use2 𝓛 (some (λ (d : List Gv). given (Least growing.le a b d) (‵ (at_least growing γ d))))
        (at_least_join growing 𝓛 γ a b) $
        pick ! (λ d. learn ! (λ least. drop ! $
        check ! (coded_in_line coded_write xs ys d least.0 least.1) $
        move ! (1 ∷ 0 ∷ []) $ done !))

    -- what two claims show that become one, which has seen zs
    abbrev pub BothShown : List (List E) → List (List E) → List ℕ → List (List E) → Type 0
    BothShown xs ys ps zs = AreApart ps × IsPrefix xs zs × IsPrefix ys zs

    -- the claim that they become
    abbrev pub Both : List (List E) → List (List E) → List ℕ → List (List E) → SProp 𝓤
    Both xs ys ps zs = guard 𝓤 (BothShown xs ys ps zs) ⟦ Claim zs ps ⟧

    keeps_longer : (xs ys : List (List E)) (ps : List ℕ) → IsPrefix xs ys ⊎ IsPrefix ys xs
        → AreApart ps → ⟦ Begins xs ⟧ ∗ ⟦ Begins ys ⟧ ∗ ⟦ tickets_of δ ps ⟧
        ⊢ ex 𝓤 (Both xs ys ps)
    unfolding claim_owns
    keeps_longer xs ys ps (inl p) apart =
        qed 𝓛 (‵ (Begins xs) ∷ ‵ (Begins ys) ∷ ‵ (tickets_of δ ps) ∷ []) ∵ drop ! $ fjoin ! $
        show ! (Both xs ys ps) ys $ check ! (apart, p, ([], append-nil ys)) $ done !
    keeps_longer xs ys ps (inr p) apart =
        qed 𝓛 (‵ (Begins xs) ∷ ‵ (Begins ys) ∷ ‵ (tickets_of δ ps) ∷ []) ∵
        move ! (0 ∷ 2 ∷ []) $ fjoin ! $ move ! (1 ∷ []) $ drop ! $
        show ! (Both xs ys ps) xs $ check ! (apart, ([], append-nil xs), p) $ done !

    -- two claims become one
    pub are_merged : (xs ys : List (List E)) (ps qs : List ℕ)
        → ⟦ Claim xs ps ⟧ ∗ ⟦ Claim ys qs ⟧ ⊢ ex 𝓤 (Both xs ys (ps ++ qs))
    unfolding claim_owns
    are_merged xs ys ps qs =
        qed 𝓛 ((‵ (Begins xs) ⊛ ‵ (tickets_of δ ps))
        ∷ ‵ (Begins ys) ∷ ‵ (tickets_of δ qs) ∷ []) ∵
        split ! $ move ! (0 ∷ 2 ∷ []) $
        use2 𝓛 (given (IsPrefix xs ys ⊎ IsPrefix ys xs) (‵ (Begins xs) ⊛ ‵ (Begins ys)))
        (are_in_line xs ys) $ learn ! (λ line. split ! $ move ! (2 ∷ 3 ∷ []) $
        use2 𝓛 (‵ (tickets_of δ (ps ++ qs))) (are_joined 𝓛 δ ps qs) $
        use1 𝓛 (given (AreApart (ps ++ qs)) (‵ (tickets_of δ (ps ++ qs))))
        (are_apart 𝓛 δ (ps ++ qs)) $ learn ! (λ apart.
        move ! (1 ∷ 2 ∷ 0 ∷ []) $ by ! (keeps_longer xs ys (ps ++ qs) line apart)))
