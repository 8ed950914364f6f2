-- What a turn of a receive gave, and what was taken behind it.
use Rattle.std.proofs.Common.{◌≡◌, ℕ, ◌+◌, ◌≤◌, List, [], ◌∷◌, ◌++◌, length, Ok, refl, sym, ap, ◌∙◌, arith}
use Rattle.std.proofs.lemmas.List.{append-nil, append_assoc}
use Rattle.flume_calls.specs.declared.calls.receive.RecvNext.{RecvNext}
use Rattle.flume_calls.specs.declared.calls.receive.RecvNext.TheVariants.{Done}
use Rattle.flume_calls.specs.ManyReceives.{Gives, given_by, with_more}

module _ {T : Type 0} where
  -- a turn that gave no message
  pub gives_none : (before after : List T) (more : ℕ) (first : RecvNext T) (next : RecvNext ℕ) → given_by first ≡ [] → after ≡ before
      → next ≡ with_more 0 first → Gives before more first [] after next
  gives_none before after more first next none same is = record {
    items = same ∙ sym (ap (λ gave. before ++ (gave ++ [])) none ∙ append-nil before);
    next_is = is;
    only_behind_one = λ gave. refl;
    at_most = omega arith;
  }

  -- a turn that gave this message, and what was taken behind it
  pub gives_some : (before between after taken : List T) (more count : ℕ) (first : RecvNext T) (message : T) → first ≡ Done (Ok message)
      → between ≡ before ++ message ∷ [] → after ≡ between ++ taken → length taken ≡ count → count ≤ more
      → Gives before more first taken after (Done (Ok (count + 1)))
  gives_some before between after taken more count first message is pushed took number most = record {
    items = took ∙ ap (λ items. items ++ taken) pushed ∙ append_assoc before (message ∷ []) taken
        ∙ ap (λ first. before ++ (given_by first ++ taken)) (sym is);
    next_is = ap (λ n. Done (Ok (n + 1))) (sym number) ∙ ap (with_more (length taken)) (sym is);
    only_behind_one = λ none. let gave : message ∷ [] ≡ [] = sym (ap given_by is) ∙ none in absurd (let no : ⊥ = cc in no);
    at_most = omega arith;
  }

  -- a turn that gave a message gave one
  pub no_message : (first : RecvNext T) (message : T) → first ≡ Done (Ok message) → given_by first ≡ [] → ⊥
  no_message first message is none = let gave : message ∷ [] ≡ [] = sym (ap given_by is) ∙ none in cc
