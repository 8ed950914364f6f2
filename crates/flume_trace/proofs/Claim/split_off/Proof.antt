-- What a claim has seen can be had twice. Assumes `Logic`.
use Rattle.flume_trace.proofs.Walks.{List, [], ◌∷◌, refl, proved, leaves, a_type, dcons, dnil}
use Rattle.flume_trace.proofs.Walks.{named, Val, vptr, inst_fn, emp, ftrue, fsep, flft, fact_i}
use Rattle.flume_trace.proofs.Walks.{tables, ‵, raw, ◌⊛◌, ◌$◌, ◌∵◌, !, qed, by, move, keep, split}
use Rattle.flume_trace.proofs.Walks.{fsplit, fsplit3, fjoin, fjoin3, feq_i, use1, suffices, frame}
use Rattle.flume_trace.proofs.Walks.{enter, no_more, and_then, returns, alloc_all, pass_all}
use Rattle.flume_trace.proofs.Walks.{free_all, look_at, get, sets, agg, param, bounded, RattleType}
use Rattle.flume_trace.proofs.Walks.{owns, mut_vals, mut_Tells, pure_i, types_at, plain, nothing}
use Rattle.flume_trace.proofs.Walks.{opens, closes, Tuple, Stays, walk_of, says, stay_ref, Goes-ref}
use Rattle.flume_trace.specs.Tokens.{claim_owns}
use Rattle.flume_trace.specs.contracts.Claim as Claim
use Rattle.flume_trace.specs.contracts.Claim.split_off.{ended, clauses}
use Rattle.flume_trace.specs.contracts.Claim.split_off.Key.{name as #self}
use Rattle.flume_trace.proofs.ChangeLemmas as change
use Rattle.flume_trace.proofs.MarkerLemmas.{mark, Marker, mark_pure, mark_shadow}
use Rattle.flume_trace.proofs.Claim.split_off.Statement.{statement}
use Rattle.flume_trace.proofs.Claim.split_off.Code as code

pub split_off_spec : {M : Type 1} → statement M
split_off_spec 𝓤 𝓛 𝓜 𝓡 wired E J _ _ g d _ =
    let H = 𝓛.H in
    let 𝓣 = tables 𝓤 H 𝓜 𝓡 𝓡.env in
    let T = ended E J g d in
    let instance = bounded (a_type ∷ a_type ∷ []) (E, (J, tt)) (dcons d dnil) in
    let c = clauses E J g d 𝓛 𝓜.mem 𝓡.returns in
    let cv = (param 0 E).coded in
    let R : RattleType = Claim.the_row (param 0 E) (param 1 J) g in
    let Both : RattleType = Tuple (param 0 E ∷ param 1 J ∷ []) in
    let stayed : Stays T.signature.params T.kept = (stay_ref (0 ∷ []) tt (plain (λ _. R)), tt) in
    let W = walk_of 𝓛 T stayed c in
    proved 𝓛 T stayed c 𝓜 𝓡 (Goes-ref 𝓛 3 0 tt (plain (λ _. R)), tt) (#self instance)
    (inst_fn instance code.function) (code.unfolded 𝓤 H 𝓜 𝓡 wired (E, (J, tt)) d)
    (λ κs. (mut_vals, tt)) (λ κs. (mut_Tells (named 0) κs.0 R, tt)) (λ κs qs bounds a gh are.
    let me = a.0.now in
    let u : Val = vptr a.0.ref_ptr.0 a.0.ref_ptr.1 in
    let y : W.Ghost = ((κs, qs, bounds, a, (u ∷ [], tt)), gh) in
    let new : R.Denot = record { marker = record {}; seen = me.seen; positions = [] } in
    qed 𝓛 ((‵ (fsep (flft κs.0 qs.0) (fsep (flft κs.1.0 qs.1.0)
    (fsep (flft κs.1.1.0 qs.1.1.0) ftrue)))
    ⊛ ‵ (owns (types_at T.signature.params κs) a y.0.4)) ∷ raw ((c κs a).requires gh) ∷ []) ∵
    keep ! (0 ∷ []) $ split ! $ fsplit ! $ move ! (2 ∷ []) $ fsplit ! $ fsplit3 ! $
    keep ! (1 ∷ 2 ∷ 4 ∷ 5 ∷ []) $
    -- [self's borrow, in two parts; its token; the other tokens]
    enter ! _ _ _ _ _ $ alloc_all ! (λ l. pass_all ! refl ((tt, tt), tt) $
    opens ! tt R a.0.ref_ptr.0 a.0.ref_ptr.1 (λ vs.
    move ! (1 ∷ []) $ fsplit ! $ move ! (1 ∷ []) $
    use1 𝓛 (‵ (claim_owns cv.code g.trace_name g.positions_name me.seen me.positions)
    ⊛ ‵ (claim_owns cv.code g.trace_name g.positions_name me.seen []))
    (change.is_split 𝓛 cv g.trace_name g.positions_name me.seen me.positions) $ split ! $
    move ! (2 ∷ 0 ∷ []) $ fjoin ! $
    move ! (2 ∷ 0 ∷ 3 ∷ 4 ∷ 5 ∷ []) $ closes ! tt R me vs a.0.ref_ptr.0 a.0.ref_ptr.1 $
    -- [self's borrow, in two parts; its token; what the new claim owns; the other tokens]
    move ! (3 ∷ []) $
    pure_i ! ((Marker Both).own_val (record {}, tt) (mark ∷ [])) (mark_pure Both) (mark_shadow Both) $
    fjoin ! $ sets ! (agg ! (no_more !)) refl (tt, tt) $
    sets ! (agg ! (and_then ! (get ! refl) (no_more !))) refl (tt, (tt, tt)) $
    nothing ! $ feq_i ! (List Val) (u ∷ []) (u ∷ []) refl $
    move ! (0 ∷ 3 ∷ 4 ∷ []) $ fjoin3 ! $ fjoin ! $ move ! (2 ∷ 3 ∷ []) $ fjoin ! $
    returns ! (look_at ! 0 refl) $ free_all ! refl $ keep ! (0 ∷ 1 ∷ 2 ∷ []) $
    suffices ! _ (leaves 𝓛 T stayed c y mark new (me, tt) (tt, tt)) $
    frame ! $ frame ! $ frame ! $ says ! (refl, refl) $ by ! (fact_i 𝓤 _ (emp 𝓤) refl))))
