-- A name is this one if and only if it has the same bytes.
use Rattle.std.proofs.Common.{◌∙◌, sym, below_more, Bor, List, ℕ, []}
use Rattle.std.proofs.lemmas.Bool.{false≢true}
use Rattle.std.proofs.lemmas.Bool.Decides.{Decides-eqb}
use Rattle.std.proofs.lemmas.Slice.Eq.{slice_eq-Decides}
use Rattle.judge_calls.proofs.ThreadNameLemmas.{name_at}
use Rattle.judge_calls.proofs.threads.place_of.Goals as goal

-- what a reference is if there is none
no_name : Bor (List ℕ)
no_name = record { ref_ptr = (0, 0); now = [] }

pub returns-then-eq-clause-found : goal.returns-then-eq-clause-found
unfolding no_name
returns-then-eq-clause-found c =
    let tells = slice_eq-Decides Decides-eqb _ _ _ c.eq.ensures in
    name_at c.args.names.now c.loop-place.place no_name c.loop-place-test.true ∙ tells.0 c.if-eq.true

pub loop-place-preserved : goal.loop-place-preserved
unfolding no_name
loop-place-preserved c =
    let tells = slice_eq-Decides Decides-eqb _ _ _ c.eq.ensures in
    let here = name_at c.args.names.now c.loop-place.place no_name c.loop-place-test.true in
    below_more _ _ c.loop-place.invariant (λ is. false≢true (sym c.if-eq.false ∙ tells.1 (sym here ∙ is)))
