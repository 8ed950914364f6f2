-- Of two claims one has seen as much as both, and their positions go together. Assumes `Logic`.
use Rattle.flume_trace.proofs.Walks.{List, [], ◌∷◌, ◌++◌, refl, proved, leaves, a_type, dcons, dnil}
use Rattle.flume_trace.proofs.Walks.{named, Val, vptr, vunit, inst_fn, emp, ftrue, fsep, flft}
use Rattle.flume_trace.proofs.Walks.{fact_i, tables, ‵, raw, ◌⊛◌, some, given, ◌$◌, ◌∵◌, !, qed, by}
use Rattle.flume_trace.proofs.Walks.{move, keep, split, fsplit, fsplit3, fjoin, fjoin3, feq_i}
use Rattle.flume_trace.proofs.Walks.{pick, learn, use2, suffices, frame, enter, of_opd, unit_lit}
use Rattle.flume_trace.proofs.Walks.{returns, alloc_all, pass_all, free_all, look_at, sets, no}
use Rattle.flume_trace.proofs.Walks.{param, bounded, RattleType, owns, mut_vals, mut_Tells}
use Rattle.flume_trace.proofs.Walks.{types_at, plain, nothing, opens, closes, Tuple, Stays, walk_of}
use Rattle.flume_trace.proofs.Walks.{stay_dropped, stay_ref, Goes-dropped, Goes-ref}
use Rattle.flume_trace.specs.Tokens.{claim_owns}
use Rattle.flume_trace.specs.contracts.Claim as Claim
use Rattle.flume_trace.specs.contracts.Claim.merge.{ended, clauses}
use Rattle.flume_trace.specs.contracts.Claim.merge.Key.{name as #self}
use Rattle.flume_trace.proofs.ChangeLemmas as change
use Rattle.flume_trace.proofs.MarkerLemmas.{mark, is_mark}
use Rattle.flume_trace.proofs.Claim.merge.Statement.{statement}
use Rattle.flume_trace.proofs.Claim.merge.Code as code

pub merge_spec : {M : Type 1} → statement M
merge_spec 𝓤 𝓛 𝓜 𝓡 wired E J _ _ g d _ =
    let H = 𝓛.H in
    let 𝓣 = tables 𝓤 H 𝓜 𝓡 𝓡.env in
    let T = ended E J g d in
    let instance = bounded (a_type ∷ a_type ∷ []) (E, (J, tt)) (dcons d dnil) in
    let c = clauses E J g d 𝓛 𝓜.mem 𝓡.returns in
    let cv = (param 0 E).coded in
    let R : RattleType = Claim.the_row (param 0 E) (param 1 J) g in
    let Both : RattleType = Tuple (param 0 E ∷ param 1 J ∷ []) in
    let stayed : Stays T.signature.params T.kept =
    (stay_ref (0 ∷ []) tt (plain (λ _. R)), (stay_dropped (plain (λ _. R)) no, tt)) in
    let W = walk_of 𝓛 T stayed c in
    proved 𝓛 T stayed c 𝓜 𝓡
    (Goes-ref 𝓛 3 0 tt (plain (λ _. R)), (Goes-dropped 𝓛 3 (plain (λ _. R)) no (λ κs x f. refl), tt))
    (#self instance) (inst_fn instance code.function)
    (code.unfolded 𝓤 H 𝓜 𝓡 wired (E, (J, tt)) d)
    (λ κs. (mut_vals, ((λ x. mark ∷ []), tt)))
    (λ κs. (mut_Tells (named 0) κs.0 R, ((λ x vs is. is_mark Both vs is.0), tt)))
    (λ κs qs bounds a gh are.
    let me = a.0.now in
    let other = a.1.0 in
    let all = me.positions ++ other.positions in
    let u : Val = vptr a.0.ref_ptr.0 a.0.ref_ptr.1 in
    let y : W.Ghost = ((κs, qs, bounds, a, (u ∷ [], (mark ∷ [], tt))), gh) in
    qed 𝓛 ((‵ (fsep (flft κs.0 qs.0) (fsep (flft κs.1.0 qs.1.0)
    (fsep (flft κs.1.1.0 qs.1.1.0) ftrue)))
    ⊛ ‵ (owns (types_at T.signature.params κs) a y.0.4)) ∷ raw ((c κs a).requires gh) ∷ []) ∵
    keep ! (0 ∷ []) $ split ! $ fsplit ! $ move ! (2 ∷ []) $ fsplit ! $ fsplit3 ! $
    move ! (3 ∷ []) $ fsplit ! $ fsplit ! $ keep ! (1 ∷ 4 ∷ 5 ∷ 6 ∷ 7 ∷ []) $
    -- [what the other owns; self's borrow, in two parts; its token; the other tokens]
    enter ! _ _ _ _ _ $ alloc_all ! (λ l. pass_all ! refl ((tt, tt), ((tt, (tt, tt)), tt)) $
    move ! (1 ∷ 2 ∷ 3 ∷ []) $ opens ! tt R a.0.ref_ptr.0 a.0.ref_ptr.1 (λ vs.
    move ! (1 ∷ []) $ fsplit ! $ move ! (1 ∷ 6 ∷ []) $
    use2 𝓛 (some (λ (seen : List (List E.Denot)).
    given (change.BothShown 𝓛 cv g.trace_name g.positions_name me.seen other.seen all seen)
    (‵ (claim_owns cv.code g.trace_name g.positions_name seen all))))
    (change.are_merged 𝓛 cv g.trace_name g.positions_name me.seen other.seen
    me.positions other.positions) $
    pick ! (λ seen. learn ! (λ shown.
    let me' : R.Denot = record { marker = me.marker; seen = seen; positions = all } in
    move ! (1 ∷ 0 ∷ []) $ fjoin ! $
    move ! (1 ∷ 0 ∷ 2 ∷ 3 ∷ 4 ∷ []) $ closes ! tt R me' vs a.0.ref_ptr.0 a.0.ref_ptr.1 $
    sets ! (of_opd ! (unit_lit !)) refl (tt, tt) $
    feq_i ! (List Val) (vunit ∷ []) (vunit ∷ []) refl $ move ! (3 ∷ 4 ∷ []) $ fjoin ! $
    nothing ! $ nothing ! $ fjoin ! $
    feq_i ! (List Val) (u ∷ []) (u ∷ []) refl $ move ! (0 ∷ 4 ∷ 5 ∷ []) $ fjoin3 ! $ fjoin ! $
    returns ! (look_at ! 0 refl) $ free_all ! refl $ keep ! (1 ∷ 0 ∷ 2 ∷ []) $
    suffices ! _ (leaves 𝓛 T stayed c y vunit tt (me', (tt, tt)) (tt, (tt, tt))) $
    frame ! $ frame ! $ frame ! $ by ! (fact_i 𝓤 _ (emp 𝓤) (record {
      claimed = refl;
      apart = shown.0;
      saw_own = shown.1;
      saw_other = shown.2;
    })))))))
