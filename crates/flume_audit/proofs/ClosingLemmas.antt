-- What is answered as an audit is closed.
use Rattle.std.proofs.Common.{◌≡◌, ℕ, ◌<◌, ◌⊎◌, inl, inr, Bool, List, ◌∙◌, ap, subst}
use Rattle.std.specs.Prelude.{map, ◌↔◌}
use Rattle.std.proofs.lemmas.Bool.{cases_order}
use Rattle.std.proofs.lemmas.List.{map-id}
use Rattle.flume_model.specs.declared.step.Step.{Step}
use Rattle.flume_model.specs.declared.step.Reply.{Reply}
use Rattle.flume_audit.specs.declared.receipt.Receipt.{Receipt}
use Rattle.flume_audit.specs.declared.closed.Closed.{Closed}
use Rattle.flume_audit.specs.declared.closed.Closed.TheVariants.{Differs, Settled}
use Rattle.flume_audit.specs.Recorded.{History}
use Rattle.flume_audit.specs.Settled.{DisagreeAt, LeastDisagreement, IsSettled}

module _ {T A : Type 0} (equal : Step T × Reply T A → Step T × Reply T A → Bool)
    (history : History T A) (lists : List (List (Receipt T A))) where
  -- there is one least number at which they disagree
  one_least : (one other : ℕ) → LeastDisagreement equal history lists one
      → LeastDisagreement equal history lists other → one ≡ other
  one_least one other is also = go (cases_order one other)
    where
      go : (one ≡ other) ⊎ ((one < other) ⊎ (other < one)) → one ≡ other
      go (inl same) = same
      go (inr (inl less)) = absurd (also.1 one less is.0)
      go (inr (inr more)) = absurd (is.1 other more also.0)

  -- what `differs` was given: the history and the lists, each seen anew
  module _ (law : IsSettled equal history lists
      ↔ ((number : ℕ) → DisagreeAt equal history lists number → ⊥))
      {given : History T A} {seen : List (List (Receipt T A))}
      (of_history : given ≡ history) (of_lists : seen ≡ lists)
      {All : Type 0} (all : All) (closed : Closed) where
    -- what is said of these is said of the history and the lists
    found_so : {number : ℕ} → LeastDisagreement equal given (map (λ list. list) seen) number
        → LeastDisagreement equal history lists number
    found_so {number} found =
        subst (λ h. LeastDisagreement equal h lists number) of_history
        (subst (λ l. LeastDisagreement equal given l number) (map-id seen ∙ of_lists) found)

    none_so : ((number : ℕ) → DisagreeAt equal given (map (λ list. list) seen) number → ⊥)
        → (number : ℕ) → DisagreeAt equal history lists number → ⊥
    none_so none =
        subst (λ h. (number : ℕ) → DisagreeAt equal h lists number → ⊥) of_history
        (subst (λ l. (number : ℕ) → DisagreeAt equal given l number → ⊥)
        (map-id seen ∙ of_lists) none)

    -- they disagree: this least number is answered, and no other
    pub this_differs : (least number : ℕ) → closed ≡ Differs least
        → LeastDisagreement equal given (map (λ list. list) seen) least
        → (closed ≡ Differs number) ↔ All × LeastDisagreement equal history lists number
    this_differs least number is found = (
      (λ said. let same : least ≡ number = cc in
          (all, subst (LeastDisagreement equal history lists) same (found_so found))),
      (λ fact. is ∙ ap Differs (one_least least number (found_so found) fact.1)),
    )

    -- they disagree: it isn't settled
    pub not_settled : (least : ℕ) → closed ≡ Differs least
        → LeastDisagreement equal given (map (λ list. list) seen) least
        → (closed ≡ Settled) ↔ All × IsSettled equal history lists
    not_settled least is found = (
      (λ said. absurd (let no : ⊥ = cc in no)),
      (λ fact. absurd (law.0 fact.1 least (found_so found).0)),
    )

    -- they agree: no number is answered
    pub none_differs : (number : ℕ) → closed ≡ Settled
        → ((number : ℕ) → DisagreeAt equal given (map (λ list. list) seen) number → ⊥)
        → (closed ≡ Differs number) ↔ All × LeastDisagreement equal history lists number
    none_differs number is none = (
      (λ said. absurd (let no : ⊥ = cc in no)),
      (λ fact. absurd (none_so none number fact.1.0)),
    )

    -- they agree: it is settled
    pub is_settled : closed ≡ Settled
        → ((number : ℕ) → DisagreeAt equal given (map (λ list. list) seen) number → ⊥)
        → (closed ≡ Settled) ↔ All × IsSettled equal history lists
    is_settled is none = ((λ said. (all, law.1 (none_so none))), (λ fact. is))
