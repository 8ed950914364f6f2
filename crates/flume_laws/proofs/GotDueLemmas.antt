-- What parties are still to get, merged, before one of them got more and before one was filled.
use Rattle.std.proofs.Common.{◌≡◌, ℕ, Bool, true, false, List, [], ◌∷◌, ◌++◌, Option, None}
use Rattle.std.proofs.Common.{refl, ap, sym, subst, ◌∙◌, arith}
use Rattle.std.proofs.lemmas.List.{append-nil, append_assoc}
use Rattle.flume_model.specs.Log.{is_ticket}
use Rattle.flume_party.specs.Interleavings.{Interleaving, End}
use Rattle.flume_laws.specs.Together.{Interleaved}
use Rattle.flume_laws.proofs.MergeLemmas.{left_all, right_all}
use Rattle.flume_laws.proofs.TurnLemmas.{parked_of, Course}
use Rattle.flume_laws.proofs.PartyLemmas.{Member, actions_of, AreFree}
use Rattle.flume_laws.proofs.GotMemberLemmas.{parked_under}
use Rattle.flume_laws.proofs.GotMemberLemmas.{none_merged}

module _ {T A : Type 0} where
  -- each party gets what was handed to it before, and then this
  abbrev pub AreDue : (Option ℕ → List T) → List (Member T A) → List (List T) → Type 0
  AreDue held [] [] = Unit {0}
  AreDue held (m ∷ members) (due ∷ dues) =
      (m.got ≡ held (parked_of m.stand) ++ due) × AreDue held members dues
  AreDue held _ _ = ⊥

  -- the messages are what will be handed out, to each party what it gets and wasn't handed before
  pub record Due (held : Option ℕ → List T) (members : List (Member T A)) (line : List T)
      : Type 0 where
    pub dues : List (List T)
    pub each : AreDue held members dues
    pub merged : Interleaved dues line

  -- none were before the others
  due_cons : (held : Option ℕ → List T) (m : Member T A) (members : List (Member T A))
      (due others line : List T) → m.got ≡ held (parked_of m.stand) ++ due → Due held members others
      → Interleaving due others line → Due held (m ∷ members) line
  due_cons held m members due others line got rest merged = record {
    dues = due ∷ rest.dues;
    each = (got, rest.each);
    merged = (others, rest.merged, merged);
  }

  -- of the first party and of the others
  record Split (held : Option ℕ → List T) (m : Member T A) (members : List (Member T A))
      (line : List T) : Type 0 where
    pub due : List T
    pub others : List T
    pub got : m.got ≡ held (parked_of m.stand) ++ due
    pub rest : Due held members others
    pub merged : Interleaving due others line

  split : (held : Option ℕ → List T) (m : Member T A) (members : List (Member T A))
      (line : List T) → Due held (m ∷ members) line → Split held m members line
  split held m members line d = by_dues d.dues d.each d.merged
    where
      by_dues : (dues : List (List T)) → AreDue held (m ∷ members) dues → Interleaved dues line
          → Split held m members line
      by_dues [] each merged = absurd each
      by_dues (due ∷ dues) each merged = record {
        due = due;
        others = merged.0;
        got = each.0;
        rest = record { dues = dues; each = each.1; merged = merged.1 };
        merged = merged.2;
      }

  -- one party gets more, some of it handed to it before, and some now
  pub due_more : (held : Option ℕ → List T) (before after : List (Member T A)) (m n : Member T A)
      (now own line : List T) → m.got ≡ now ++ n.got → now ++ held (parked_of n.stand) ≡ held (parked_of m.stand) ++ own
      → Due held (before ++ n ∷ after) line → Due held (before ++ m ∷ after) (own ++ line)
  due_more held [] after m n now own line got same d =
      let s = split held n after line d in
      let due = got
      ∙ (ap (λ list. now ++ list) s.got
      ∙ (sym (append_assoc now (held (parked_of n.stand)) s.due)
      ∙ (ap (λ list. list ++ s.due) same
      ∙ append_assoc (held (parked_of m.stand)) own s.due))) in
      due_cons held m after (own ++ s.due) s.others (own ++ line) due s.rest
      (left_all own s.due s.others line s.merged)
  due_more held (x ∷ before) after m n now own line got same d =
      let s = split held x (before ++ n ∷ after) line d in
      due_cons held x (before ++ m ∷ after) s.due (own ++ s.others) (own ++ line) s.got
      (due_more held before after m n now own s.others got same s.rest)
      (right_all own s.due s.others line s.merged)

  -- what was handed before may be said otherwise
  same_else : (t : ℕ) (held new : Option ℕ → List T) (members : List (Member T A)) (line : List T)
      → ((parked : Option ℕ) → is_ticket t parked ≡ false → new parked ≡ held parked)
      → parked_under t members ≡ 0 → Due new members line → Due held members line
  same_else t held new [] line same none d =
      record { dues = d.dues; each = d.each; merged = d.merged }
  same_else t held new (m ∷ members) line same none d =
      let s = split new m members line d in
      let other : is_ticket t (parked_of m.stand) ≡ false = grind (arith, none) in
      due_cons held m members s.due s.others line
      (s.got ∙ ap (λ list. list ++ s.due) (same (parked_of m.stand) other))
      (same_else t held new members s.others same (omega (arith, none)) s.rest) s.merged

  -- the party parked under the ticket was filled with the message
  pub due_filled : (t : ℕ) (held new : Option ℕ → List T) (filled : List T)
      (members : List (Member T A)) (line : List T)
      → ((parked : Option ℕ) → is_ticket t parked ≡ false → new parked ≡ held parked)
      → ((parked : Option ℕ) → is_ticket t parked ≡ true
      → (new parked ≡ filled) × (held parked ≡ []))
      → parked_under t members ≡ 1 → Due new members line → Due held members (filled ++ line)
  due_filled t held new filled [] line same is one d = absurd (omega (arith, one))
  due_filled t held new filled (m ∷ members) line same is one d =
      by_case (is_ticket t (parked_of m.stand)) refl (split new m members line d)
      (due_filled t held new filled members)
    where
      by_case : (b : Bool) → is_ticket t (parked_of m.stand) ≡ b → Split new m members line
          → ((others : List T)
          → ((parked : Option ℕ) → is_ticket t parked ≡ false → new parked ≡ held parked)
          → ((parked : Option ℕ) → is_ticket t parked ≡ true
          → (new parked ≡ filled) × (held parked ≡ []))
          → parked_under t members ≡ 1 → Due new members others
          → Due held members (filled ++ others)) → Due held (m ∷ members) (filled ++ line)
      by_case true own s deeper =
          let none : parked_under t members ≡ 0 = grind (arith, own, one) in
          due_cons held m members (filled ++ s.due) s.others (filled ++ line)
          (s.got ∙ (ap (λ list. list ++ s.due) (is (parked_of m.stand) own).0
          ∙ ap (λ list. list ++ (filled ++ s.due)) (sym (is (parked_of m.stand) own).1)))
          (same_else t held new members s.others same none s.rest)
          (left_all filled s.due s.others line s.merged)
      by_case false other s deeper =
          let others : parked_under t members ≡ 1 = grind (arith, other, one) in
          due_cons held m members s.due (filled ++ s.others) (filled ++ line)
          (s.got ∙ ap (λ list. list ++ s.due) (same (parked_of m.stand) other))
          (deeper s.others same is others s.rest) (right_all filled s.due s.others line s.merged)

  -- parties with nothing to do get nothing
  pub due_none : (held : Option ℕ → List T) (members : List (Member T A)) → held None ≡ []
      → Interleaved (actions_of members) [] → Due held members [] × AreFree members
  due_none held [] none merged = (record { dues = []; each = tt; merged = refl }, tt)
  due_none held (m ∷ members) none merged =
      by_parts (none_merged m.actions merged.0 merged.2) (due_none held members none)
    where
      by_parts : (m.actions ≡ []) × (merged.0 ≡ [])
          → (Interleaved (actions_of members) [] → Due held members [] × AreFree members)
          → Due held (m ∷ members) [] × AreFree (m ∷ members)
      by_parts both deeper =
          let over = subst (λ list. Course list m.stand m.sent m.got) both.0 m.course in
          let rest = deeper (subst (Interleaved (actions_of members)) both.1 merged.1) in
          let empty = ap (λ stand. held (parked_of stand)) (sym over.0) ∙ sym (append-nil (held (parked_of m.stand))) in (
            due_cons held m members [] [] [] (over.2 ∙ (sym none ∙ empty)) rest.0 End,
            (over.0, rest.1),
          )
