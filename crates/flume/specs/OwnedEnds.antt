-- An end of a channel that is owned or borrowed.
use Rattle.flume.specs.declared.polled.owned_or_ref.OwnedOrRef.{OwnedOrRef}
use Rattle.flume.specs.declared.polled.owned_or_ref.OwnedOrRef.TheVariants.{Owned, Ref}

-- the end
abbrev pub end_of : {E : Type 0} → OwnedOrRef E → E
end_of (Owned end) = end
end_of (Ref end) = end.now
