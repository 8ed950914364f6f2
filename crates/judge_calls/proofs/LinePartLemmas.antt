-- Where a line is cut: at its first space, and before that at a colon.
use Rattle.std.proofs.Common.{◌≡◌, ℕ, ◌<◌, false, List, [], ◌∷◌, ◌++◌, length, eqb, codes, refl, sym, subst, ap, ◌∙◌, arith}
use Rattle.std.proofs.lemmas.List.{append_assoc, append_cancel_left}
use Rattle.std.proofs.lemmas.List.Elements.{All-push}
use Rattle.judge_calls.specs.declared.event.Event.TheVariants.{Begins, Returns}
use Rattle.judge_calls.specs.declared.fault.Fault.{Fault}
use Rattle.judge_calls.specs.declared.fault.Fault.TheVariants.{NoOpening, NoEvent, NoCall, NoAnswer}
use Rattle.judge_calls.specs.Texts.{call_text, answer_text}
use Rattle.judge_calls.specs.EventLines.{IsName, IsEventLine, IsNoEvent, IsFault, HasNoParts, begins_line, returns_line, name_of}
use Rattle.judge_calls.proofs.CutLemmas.{Without, has_byte, same_cuts, without_left}

-- a name with a colon has no space
with_colon : (name : List ℕ) → IsName name → Without 32 (name ++ 58 ∷ [])
with_colon name named = All-push (λ x. eqb x 32 ≡ false) name 58 named.no_space refl

-- the line on which a call begins is cut behind the colon
at_colon : (name text : List ℕ) → (name ++ 58 ∷ []) ++ 32 ∷ text ≡ begins_line name text
at_colon name text = append_assoc name (58 ∷ []) (32 ∷ text) ∙ sym (append_assoc name (codes ": ") text)

-- the line on which a call returns is cut behind the name
at_arrow : (name text : List ℕ) → returns_line name text ≡ name ++ 32 ∷ (codes "-> " ++ text)
at_arrow name text = append_assoc name (codes " -> ") text

-- so what is before the first space is the name and the colon
begins_cut : (front rest name text : List ℕ) → Without 32 front → IsName name → front ++ 32 ∷ rest ≡ begins_line name text
    → (front ≡ name ++ 58 ∷ []) × (rest ≡ text)
begins_cut front rest name text none named e =
    same_cuts 32 front (name ++ 58 ∷ []) rest text none (with_colon name named) (e ∙ sym (at_colon name text))

-- and if a call returns, it is the name
returns_cut : (front rest name text : List ℕ) → Without 32 front → IsName name → front ++ 32 ∷ rest ≡ returns_line name text
    → (front ≡ name) × (rest ≡ codes "-> " ++ text)
returns_cut front rest name text none named e =
    same_cuts 32 front name rest (codes "-> " ++ text) none named.no_space (e ∙ at_arrow name text)

-- a line with no space has no parts
pub without_space : (line : List ℕ) → Without 32 line → HasNoParts line
without_space line none = λ name text named. (
  λ e. has_byte 32 (name ++ 58 ∷ []) text line (at_colon name text ∙ sym e) none,
  λ e. has_byte 32 name (codes "-> " ++ text) line (sym (at_arrow name text) ∙ sym e) none,
)

-- nor one with a colon before its first space, if the colon doesn't are behind a byte and before
-- the space
pub misplaced_colon : (line front rest name after : List ℕ) → line ≡ front ++ 32 ∷ rest → Without 32 front
    → front ≡ name ++ 58 ∷ after → Without 58 name → (0 < length name → length after ≡ 0 → ⊥) → HasNoParts line
misplaced_colon line front rest name after parts none front_is none' bad = λ name' text named. (
  λ e.
      let cut = begins_cut front rest name' text none named (sym parts ∙ e) in
      let same = same_cuts 58 name name' after [] none' named.no_colon (sym front_is ∙ cut.0) in
      bad (subst (λ n. 0 < length n) (sym same.0) named.some) (ap length same.1),
  λ e.
      let cut = returns_cut front rest name' text none named (sym parts ∙ e) in
      has_byte 58 name after name' (sym front_is ∙ cut.0) named.no_colon,
)

-- a list of no elements is empty
empty : (xs : List ℕ) → length xs ≡ 0 → xs ≡ []
empty [] e = refl
empty (x ∷ xs) e = absurd (omega arith)

-- if it does, a call begins
pub colon : (line front rest name after : List ℕ) → line ≡ front ++ 32 ∷ rest → Without 32 front
    → front ≡ name ++ 58 ∷ after → Without 58 name → 0 < length name → length after ≡ 0 → IsName name × (line ≡ begins_line name rest)
colon line front rest name after parts none front_is none' some last =
    let is : front ≡ name ++ 58 ∷ [] = front_is ∙ ap (λ a. name ++ 58 ∷ a) (empty after last) in (
      record { some = some; no_space = without_left 32 name (58 ∷ after) front front_is none; no_colon = none' },
      parts ∙ ap (λ f. f ++ 32 ∷ rest) is ∙ at_colon name rest,
    )

-- a line with no colon before its first space has no parts, if there is no name or no arrow
pub no_arrow : (line front rest : List ℕ) → line ≡ front ++ 32 ∷ rest → Without 32 front → Without 58 front
    → ((text : List ℕ) → rest ≡ codes "-> " ++ text → 0 < length front → ⊥) → HasNoParts line
no_arrow line front rest parts none none' bad = λ name text named. (
  λ e.
      let cut = begins_cut front rest name text none named (sym parts ∙ e) in
      has_byte 58 name [] front (sym cut.0) none',
  λ e.
      let cut = returns_cut front rest name text none named (sym parts ∙ e) in
      bad text cut.1 (subst (λ n. 0 < length n) (sym cut.0) named.some),
)

-- with a name and an arrow, a call returns
pub arrow : (line front rest text : List ℕ) → line ≡ front ++ 32 ∷ rest → Without 32 front → Without 58 front
    → rest ≡ codes "-> " ++ text → 0 < length front → IsName front × (line ≡ returns_line front text)
arrow line front rest text parts none none' is some = (
  record { some = some; no_space = none; no_colon = none' },
  parts ∙ ap (λ r. front ++ 32 ∷ r) is ∙ sym (at_arrow front text),
)

-- two lines on which calls begin are equal only if their parts are
same_begins : (name text name' text' : List ℕ) → IsName name → IsName name'
    → begins_line name text ≡ begins_line name' text'
    → text ≡ text'
same_begins name text name' text' named named' e =
    (begins_cut (name ++ 58 ∷ []) text name' text' (with_colon name named) named' (at_colon name text ∙ e)).1

-- so are two lines on which calls return
same_returns : (name text name' text' : List ℕ) → IsName name → IsName name' → returns_line name text ≡ returns_line name' text'
    → text ≡ text'
same_returns name text name' text' named named' e =
    append_cancel_left (codes "-> ") text text' (returns_cut name (codes "-> " ++ text) name' text' named.no_space named'
    (sym (at_arrow name text) ∙ e)).1

-- no line is both
not_both : (name text name' text' : List ℕ) → IsName name → IsName name' → begins_line name text ≡ returns_line name' text' → ⊥
not_both name text name' text' named named' e =
    let cut = returns_cut (name ++ 58 ∷ []) text name' text' (with_colon name named) named' (at_colon name text ∙ e) in
    has_byte 58 name [] name' cut.0 named'.no_colon

-- a line with a fault is no event
pub no_event : {A : Type 0} (line : List ℕ) (fault : Fault) → IsFault A line fault → IsNoEvent A line
no_event line NoOpening h = absurd h
no_event {A} line NoEvent h = λ names event. elim event as (λ e. IsEventLine {A = A} names line e → ⊥) [
  | Begins thread call ↦ λ is. (h (name_of names thread) (call_text call) is.name).0 is.line_is
  | Returns thread answer ↦ λ is. (h (name_of names thread) (answer_text answer) is.name).1 is.line_is
]
no_event {A} line NoCall h = λ names event. elim event as (λ e. IsEventLine {A = A} names line e → ⊥) [
  | Begins thread call ↦ λ is.
      h.4 call (same_begins h.0 h.1 (name_of names thread) (call_text call) h.2 is.name (sym h.3 ∙ is.line_is), is.fits)
  | Returns thread answer ↦ λ is. not_both h.0 h.1 (name_of names thread) (answer_text answer) h.2 is.name (sym h.3 ∙ is.line_is)
]
no_event {A} line NoAnswer h = λ names event. elim event as (λ e. IsEventLine {A = A} names line e → ⊥) [
  | Begins thread call ↦ λ is. not_both (name_of names thread) (call_text call) h.0 h.1 is.name h.2 (sym is.line_is ∙ h.3)
  | Returns thread answer ↦ λ is.
      h.4 answer (same_returns h.0 h.1 (name_of names thread) (answer_text answer) h.2 is.name (sym h.3 ∙ is.line_is), is.fits)
]
