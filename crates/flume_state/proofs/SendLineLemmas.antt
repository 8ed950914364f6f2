-- The chain of the live sends stays one of those that aren't due and then those that are.
use Rattle.std.proofs.Common.{◌≡◌, ℕ, ◌==◌, Bool, true, false, List, [], ◌∷◌, ◌++◌, Option, Some, refl, sym}
use Rattle.std.proofs.Common.{if◌then◌else◌, ap, ap₂, subst, ◌∙◌, inl, inr}
use Rattle.std.proofs.lemmas.Bool.{cases_Bool}
use Rattle.std.proofs.lemmas.List.{append_assoc}
use Rattle.std.specs.Option.{option_or}
use Rattle.flume_state.proofs.Chains.{without_place, first_place, item, put_before_or_last}
use Rattle.flume_state.specs.declared.sends.LiveSend.{LiveSend}
use Rattle.flume_state.specs.layout.SendLayout.{Element, EachDueIs, SendLayout}
use Rattle.flume_state.proofs.EntryPartLemmas.{DistinctTickets, first-push, first_same}
use Rattle.flume_state.proofs.PlacedLemmas.{put_ahead_between}
use Rattle.flume_state.proofs.ByTicketLemmas.{under}

module _ {S : Type 0} where
  pub lined_append : (due : Bool) (xs ys : List (Element S)) → EachDueIs due xs → EachDueIs due ys → EachDueIs due (xs ++ ys)
  lined_append due [] ys h k = k
  lined_append due (x ∷ xs) ys h k = (h.0, lined_append due xs ys h.1 k)

  lined_back : (due : Bool) (xs ys : List (Element S)) → EachDueIs due (xs ++ ys) → EachDueIs due ys
  lined_back due [] ys h = h
  lined_back due (x ∷ xs) ys h = lined_back due xs ys h.1

  -- one between others is replaced
  lined_put : (due : Bool) (xs ys : List (Element S)) (x : Element S) (p t : ℕ) (w : LiveSend S) → w.notice.due ≡ due
      → EachDueIs due (xs ++ x ∷ ys) → EachDueIs due (xs ++ item p (under t w) ∷ ys)
  lined_put due [] ys x p t w e h = (e, h.1)
  lined_put due (y ∷ xs) ys x p t w e h = (h.0, lined_put due xs ys x p t w e h.1)

  -- one between others is left out
  lined_cut : (due : Bool) (xs ys : List (Element S)) (x : Element S) → EachDueIs due (xs ++ x ∷ ys) → EachDueIs due (xs ++ ys)
  lined_cut due [] ys x h = h.1
  lined_cut due (y ∷ xs) ys x h = (h.0, lined_cut due xs ys x h.1)

  pub lined_without : (due : Bool) (xs : List (Element S)) (p : ℕ) → EachDueIs due xs → EachDueIs due (without_place xs p)
  lined_without due [] p h = h
  lined_without due (x ∷ xs) p h =
      elim (x.place == p) as (λ b. EachDueIs due (if b then without_place xs p else x ∷ without_place xs p)) [
        | true ↦ lined_without due xs p h.1
        | false ↦ (h.0, lined_without due xs p h.1)
      ]

  -- one that isn't due is among those that aren't
  record NotDueSide (before after not_due dues : List (Element S)) (x : Element S) : Type 0 where
    pub between : List (Element S)
    pub ahead : not_due ≡ before ++ x ∷ between
    pub behind : after ≡ between ++ dues

  not_due_side : (before after not_due dues : List (Element S)) (x : Element S) → before ++ x ∷ after ≡ not_due ++ dues
      → EachDueIs true dues → x.element.value.notice.due ≡ false → NotDueSide before after not_due dues x
  not_due_side before after [] dues x is all due =
      let here : EachDueIs true (x ∷ after) = lined_back true before (x ∷ after) (subst (EachDueIs true) (sym is) all) in
      let there : x.element.value.notice.due ≡ true = here.0 in
      absurd (let no : ⊥ = cc in no)
  not_due_side [] after (q ∷ not_due) dues x is all due =
      let head : q ≡ x = cc in
      let tail : after ≡ not_due ++ dues = cc in
      record { between = not_due; ahead = ap (λ (y : Element S). y ∷ not_due) head; behind = tail }
  not_due_side (b ∷ before) after (q ∷ not_due) dues x is all due =
      let head : q ≡ b = cc in
      let tail : before ++ x ∷ after ≡ not_due ++ dues = cc in
      let r = not_due_side before after not_due dues x tail all due in
      record {
        between = r.between;
        ahead = ap₂ (λ (y : Element S) (ys : List (Element S)). y ∷ ys) head r.ahead;
        behind = r.behind;
      }

  -- one that is due is among those that are
  record DueSide (before after not_due dues : List (Element S)) (x : Element S) : Type 0 where
    pub between : List (Element S)
    pub ahead : before ≡ not_due ++ between
    pub behind : dues ≡ between ++ x ∷ after

  due_side : (before after not_due dues : List (Element S)) (x : Element S) → before ++ x ∷ after ≡ not_due ++ dues
      → EachDueIs false not_due → x.element.value.notice.due ≡ true → DueSide before after not_due dues x
  due_side before after [] dues x is none due = record { between = before; ahead = refl; behind = sym is }
  due_side [] after (q ∷ not_due) dues x is none due =
      let head : q ≡ x = cc in
      let there : x.element.value.notice.due ≡ false = ap (λ (y : Element S). y.element.value.notice.due) (sym head) ∙ none.0 in
      absurd (let no : ⊥ = cc in no)
  due_side (b ∷ before) after (q ∷ not_due) dues x is none due =
      let head : b ≡ q = cc in
      let tail : before ++ x ∷ after ≡ not_due ++ dues = cc in
      let r = due_side before after not_due dues x tail none.1 due in
      record {
        between = r.between;
        ahead = ap₂ (λ (y : Element S) (ys : List (Element S)). y ∷ ys) head r.ahead;
        behind = r.behind;
      }

  -- a send is written, and is due if it was
  pub written_lined : (before after : List (Element S)) (p t : ℕ) (v w : LiveSend S) (d : Option ℕ) → w.notice.due ≡ v.notice.due
      → SendLayout (before ++ item p (under t v) ∷ after) d → SendLayout (before ++ item p (under t w) ∷ after) d
  written_lined before after p t v w d same l = elim (cases_Bool v.notice.due) [
    | inl due ↦ (
        let r = due_side before after l.not_due l.dues (item p (under t v)) l.parts l.none_due due in
        record {
          not_due = l.not_due;
          dues = r.between ++ item p (under t w) ∷ after;
          parts = ap (λ (xs : List (Element S)). xs ++ item p (under t w) ∷ after) r.ahead
              ∙ append_assoc l.not_due r.between (item p (under t w) ∷ after);
          none_due = l.none_due;
          all_due = lined_put true r.between after (item p (under t v)) p t w (same ∙ due) (subst (EachDueIs true) r.behind l.all_due);
          first = l.first ∙ ap first_place r.behind ∙ first_same r.between after p (under t v) (under t w);
        }
        )
    | inr due ↦ (
        let r = not_due_side before after l.not_due l.dues (item p (under t v)) l.parts l.all_due due in
        record {
          not_due = before ++ item p (under t w) ∷ r.between;
          dues = l.dues;
          parts = ap (λ (xs : List (Element S)). before ++ item p (under t w) ∷ xs) r.behind
              ∙ sym (append_assoc before (item p (under t w) ∷ r.between) l.dues);
          none_due = lined_put false before r.between (item p (under t v)) p t w (same ∙ due) (subst (EachDueIs false) r.ahead l.none_due);
          all_due = l.all_due;
          first = l.first;
        }
        )
  ]

  -- a send that wasn't due is, behind all others
  pub moved_lined : (before after : List (Element S)) (p t : ℕ) (v w : LiveSend S) (d : Option ℕ) → v.notice.due ≡ false
      → w.notice.due ≡ true
      → SendLayout (before ++ item p (under t v) ∷ after) d
      → SendLayout ((before ++ after) ++ item p (under t w) ∷ []) (option_or d (Some p))
  moved_lined before after p t v w d was is l =
      let r = not_due_side before after l.not_due l.dues (item p (under t v)) l.parts l.all_due was in
      let last : List (Element S) = item p (under t w) ∷ [] in
      record {
        not_due = before ++ r.between;
        dues = l.dues ++ last;
        parts =
            ap (λ (xs : List (Element S)). (before ++ xs) ++ last) r.behind
            ∙ ap (λ (xs : List (Element S)). xs ++ last) (sym (append_assoc before r.between l.dues))
            ∙ append_assoc (before ++ r.between) l.dues last;
        none_due = lined_cut false before r.between (item p (under t v)) (subst (EachDueIs false) r.ahead l.none_due);
        all_due = lined_append true l.dues last l.all_due (is, tt);
        first = ap (λ o. option_or o (Some p)) l.first ∙ sym (first-push l.dues (item p (under t w)));
      }

  -- one more that isn't due is ahead of the first that is
  pub put_is : (items : List (Element S)) (d : Option ℕ) (x : Element S) (l : SendLayout items d)
      → DistinctTickets items → put_before_or_last items d x ≡ l.not_due ++ x ∷ l.dues
  put_is items d x l apart =
      ap₂ (λ (xs : List (Element S)) (o : Option ℕ). put_before_or_last xs o x) l.parts l.first
      ∙ put_ahead_between l.not_due l.dues x (subst DistinctTickets l.parts apart)

  -- and the chain is one of such sends again
  pub put_lined : (items : List (Element S)) (d : Option ℕ) (p t : ℕ) (w : LiveSend S) → w.notice.due ≡ false → SendLayout items d
      → DistinctTickets items → SendLayout (put_before_or_last items d (item p (under t w))) d
  put_lined items d p t w e l apart = record {
    not_due = l.not_due ++ item p (under t w) ∷ [];
    dues = l.dues;
    parts = put_is items d (item p (under t w)) l apart ∙ sym (append_assoc l.not_due (item p (under t w) ∷ []) l.dues);
    none_due = lined_append false l.not_due (item p (under t w) ∷ []) l.none_due (e, tt);
    all_due = l.all_due;
    first = l.first;
  }
