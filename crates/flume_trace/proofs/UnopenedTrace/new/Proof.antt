-- An empty trace is made of nothing. Assumes `Logic`.
use Rattle.flume_trace.proofs.Walks.{ℕ, [], ◌∷◌, refl, proved, leaves, emp, id⊢, ftrue}
use Rattle.flume_trace.proofs.Walks.{tables, ‵, raw, ◌⊛◌, some, later, ◌$◌, ◌∵◌, !, qed, by, keep}
use Rattle.flume_trace.proofs.Walks.{split, fjoin, pick, use0, await, suffices, frame, enter}
use Rattle.flume_trace.proofs.Walks.{no_more, and_then, returns, alloc_all, pass_all, free_all}
use Rattle.flume_trace.proofs.Walks.{look_at, get, sets, agg, unit, owns, pure_i, types_at}
use Rattle.flume_trace.proofs.Walks.{nothing, Stays, walk_of}
use Rattle.flume_trace.specs.Tokens.{unopened_owns}
use Rattle.flume_trace.specs.contracts.UnopenedTrace.new.{ended, clauses}
use Rattle.flume_trace.specs.contracts.UnopenedTrace.new.Key.{name as #self}
use Rattle.flume_trace.proofs.ChangeLemmas as change
use Rattle.flume_trace.proofs.MarkerLemmas.{mark, Marker, mark_pure, mark_shadow}
use Rattle.flume_trace.proofs.UnopenedTrace.new.Statement.{statement}
use Rattle.flume_trace.proofs.UnopenedTrace.new.Code as code

-- there is no parameter
abbrev stayed : Stays ended.signature.params ended.kept
stayed = tt

pub new_spec : {M : Type 1} → statement M
new_spec 𝓤 𝓛 𝓜 𝓡 wired =
    let H = 𝓛.H in
    let 𝓣 = tables 𝓤 H 𝓜 𝓡 𝓡.env in
    let c = clauses 𝓛 𝓜.mem 𝓡.returns in
    let W = walk_of 𝓛 ended stayed c in
    proved 𝓛 ended stayed c 𝓜 𝓡 tt #self code.function (code.unfolded 𝓤 H 𝓜 𝓡 wired)
    (λ κs. tt) (λ κs. tt) (λ κs qs bounds a g are.
    let y : W.Ghost = ((κs, qs, bounds, a, tt), g) in
    qed 𝓛 ((‵ ftrue ⊛ ‵ (owns (types_at ended.signature.params κs) a y.0.4))
    ∷ raw ((c κs a).requires g) ∷ []) ∵
    keep ! (0 ∷ []) $ split ! $ keep ! (0 ∷ []) $
    enter ! _ _ _ _ _ $ alloc_all ! (λ l. pass_all ! refl tt $
    use0 𝓛 (later (some (λ (b : ℕ × ℕ). ‵ (unopened_owns b.0 b.1)))) (change.is_made 𝓛) $
    await ! tt $ pick ! (λ b.
    pure_i ! ((Marker unit).own_val (record {}, tt) (mark ∷ [])) (mark_pure unit) (mark_shadow unit) $
    fjoin ! $
    sets ! (agg ! (no_more !)) refl (tt, tt) $
    sets ! (agg ! (and_then ! (get ! refl) (no_more !))) refl (tt, (tt, tt)) $
    nothing ! $ returns ! (look_at ! 0 refl) $ free_all ! refl $ keep ! (2 ∷ 0 ∷ 1 ∷ []) $
    suffices ! _ (leaves 𝓛 ended stayed c y mark
    (record { marker = record {}; trace_name = b.0; positions_name = b.1 }) tt tt) $
    frame ! $ frame ! $ frame ! $ by ! (id⊢ 𝓤 (emp 𝓤)))))
