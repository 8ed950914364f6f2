-- The trace grows, and the claim gets the tickets of the new positions. Assumes `Logic`.
use Rattle.flume_trace.proofs.Walks.{ℕ, List, [], ◌∷◌, ◌++◌, length, refl, proved, leaves, a_type}
use Rattle.flume_trace.proofs.Walks.{dcons, dnil, named, Val, vptr, vunit, inst_fn, emp, Fml, ftrue}
use Rattle.flume_trace.proofs.Walks.{fsep, flft, fact, fact_i, tables, ‵, raw, ◌⊛◌, given, later}
use Rattle.flume_trace.proofs.Walks.{◌$◌, ◌∵◌, !, qed, by, move, keep, drop, split, fsplit, fsplit3}
use Rattle.flume_trace.proofs.Walks.{fjoin, fjoin3, feq_i, learn, use2, await, suffices, frame}
use Rattle.flume_trace.proofs.Walks.{enter, of_opd, unit_lit, returns, alloc_all, pass_all}
use Rattle.flume_trace.proofs.Walks.{free_all, look_at, sets, RefOf, yes, param, bounded}
use Rattle.flume_trace.proofs.Walks.{RattleType, owns, mut_vals, mut_Tells, shr_vals, shr_Tells}
use Rattle.flume_trace.proofs.Walks.{types_at, plain, nothing, opens, closes, Stays, walk_of}
use Rattle.flume_trace.proofs.Walks.{stay_dropped, stay_ref, Goes-dropped, Goes-ref}
use denote.Signature.{Slot}
use Rattle.flume_trace.specs.Positions.{positions_from}
use Rattle.flume_trace.specs.Tokens.{trace_owns, claim_owns}
use Rattle.flume_trace.specs.contracts.Trace as Trace
use Rattle.flume_trace.specs.contracts.Claim as Claim
use Rattle.flume_trace.specs.contracts.Trace.append.{ended, clauses}
use Rattle.flume_trace.specs.contracts.Trace.append.Key.{name as #self}
use Rattle.flume_trace.proofs.ChangeLemmas as change
use Rattle.flume_trace.proofs.Trace.append.Statement.{statement}
use Rattle.flume_trace.proofs.Trace.append.Code as code

pub append_spec : {M : Type 1} → statement M
append_spec 𝓤 𝓛 𝓜 𝓡 wired E J V N _ _ _ _ g d gn dn _ _ =
    let H = 𝓛.H in
    let 𝓣 = tables 𝓤 H 𝓜 𝓡 𝓡.env in
    let T = ended E J V N g d gn dn in
    let types = a_type ∷ a_type ∷ a_type ∷ a_type ∷ [] in
    let instance = bounded types (E, (J, (V, (N, tt)))) (dcons d (dcons dn dnil)) in
    let c = clauses E J V N g d gn dn 𝓛 𝓜.mem 𝓡.returns in
    let cv = (param 0 E).coded in
    let γ : ℕ = g.trace_name in
    let δ : ℕ = g.positions_name in
    let R : RattleType = Trace.the_row (param 0 E) (param 1 J) g in
    let S : RattleType = Claim.the_row (param 0 E) (param 1 J) g in
    let evidence : Slot 7 = RefOf (2 ∷ []) tt (plain (λ _. param 2 V)) (λ _. tt) in
    let stayed : Stays T.signature.params T.kept = (
      stay_ref (0 ∷ []) tt (plain (λ _. R)),
      (stay_ref (1 ∷ []) tt (plain (λ _. S)), (stay_dropped evidence yes, tt)),
    ) in
    let W = walk_of 𝓛 T stayed c in
    proved 𝓛 T stayed c 𝓜 𝓡 (
      Goes-ref 𝓛 7 0 tt (plain (λ _. R)),
      (Goes-ref 𝓛 7 1 tt (plain (λ _. S)), (Goes-dropped 𝓛 7 evidence yes (λ κs x f. refl), tt)),
    )
    (#self instance) (inst_fn instance code.function)
    (code.unfolded 𝓤 H 𝓜 𝓡 wired (E, (J, (V, (N, tt)))) d dn)
    (λ κs. (mut_vals, (mut_vals, (shr_vals, tt))))
    (λ κs. (
      mut_Tells (named 0) κs.0 R,
      (mut_Tells (named 1) κs.1.0 S, (shr_Tells (named 2) κs.1.1.0 (param 2 V), tt)),
    ))
    (λ κs qs bounds a gh are.
    let trace = a.0.now in
    let claim = a.1.0.now in
    let u : Val = vptr a.0.ref_ptr.0 a.0.ref_ptr.1 in
    let v : Val = vptr a.1.0.ref_ptr.0 a.1.0.ref_ptr.1 in
    let w : Val = vptr a.1.1.0.ref_ptr.0 a.1.1.0.ref_ptr.1 in
    let y : W.Ghost = ((κs, qs, bounds, a, (u ∷ [], (v ∷ [], (w ∷ [], tt)))), gh) in
    let last : Fml = fsep (flft κs.1.1.1.1.1.0 qs.1.1.1.1.1.0)
    (fsep (flft κs.1.1.1.1.1.1.0 qs.1.1.1.1.1.1.0) ftrue) in
    let tokens : Fml = fsep (flft κs.0 qs.0) (fsep (flft κs.1.0 qs.1.0)
    (fsep (flft κs.1.1.0 qs.1.1.0) (fsep (flft κs.1.1.1.0 qs.1.1.1.0)
    (fsep (flft κs.1.1.1.1.0 qs.1.1.1.1.0) last)))) in
    qed 𝓛 ((‵ tokens ⊛ ‵ (owns (types_at T.signature.params κs) a y.0.4))
    ∷ raw (fact 𝓤 _) ∷ raw (fact 𝓤 _) ∷ raw (fact 𝓤 _) ∷ raw (fact 𝓤 _)
    ∷ given _ (‵ ftrue) ∷ []) ∵
    keep ! (5 ∷ 0 ∷ []) $ learn ! (λ asked. drop ! $ split ! $
    fsplit ! $ move ! (1 ∷ []) $ fsplit ! $ move ! (3 ∷ []) $ fsplit ! $ fsplit3 ! $
    move ! (3 ∷ []) $ fsplit ! $ fsplit3 ! $ keep ! (1 ∷ 2 ∷ 5 ∷ 6 ∷ 7 ∷ 8 ∷ 9 ∷ []) $
    enter ! _ _ _ _ _ $
    alloc_all ! (λ l. pass_all ! refl ((tt, tt), ((tt, tt), ((tt, tt), tt))) $
    let more = asked.0 in
    let all = trace.writes ++ more in
    let new = claim.positions ++ positions_from (length trace.writes) more in
    let trace' : R.Denot = record { marker = trace.marker; writes = all } in
    let claim' : S.Denot = record { marker = claim.marker; seen = all; positions = new } in
    move ! (2 ∷ 3 ∷ 6 ∷ []) $ opens ! tt R a.0.ref_ptr.0 a.0.ref_ptr.1 (λ us.
    move ! (5 ∷ 6 ∷ 7 ∷ []) $ opens ! tt S a.1.0.ref_ptr.0 a.1.0.ref_ptr.1 (λ vs.
    move ! (1 ∷ []) $ fsplit ! $ move ! (7 ∷ []) $ fsplit ! $ move ! (1 ∷ 3 ∷ []) $
    -- [what the trace owns; what the claim owns; their fields; their cells]
    use2 𝓛 (later (given (change.Shown 𝓛 cv γ δ trace.writes claim.seen claim.positions)
    (‵ (trace_owns cv.code γ δ all) ⊛ ‵ (claim_owns cv.code γ δ all new))))
    (change.are_appended 𝓛 cv γ δ trace.writes more claim.seen claim.positions) $
    await ! tt $ learn ! (λ shown. split ! $
    move ! (2 ∷ 0 ∷ []) $ fjoin ! $ move ! (2 ∷ 1 ∷ []) $ fjoin ! $
    move ! (2 ∷ 0 ∷ 3 ∷ 4 ∷ 5 ∷ []) $
    closes ! tt S claim' vs a.1.0.ref_ptr.0 a.1.0.ref_ptr.1 $
    move ! (4 ∷ 3 ∷ 5 ∷ 6 ∷ 7 ∷ []) $ closes ! tt R trace' us a.0.ref_ptr.0 a.0.ref_ptr.1 $
    sets ! (of_opd ! (unit_lit !)) refl (tt, tt) $
    feq_i ! (List Val) (vunit ∷ []) (vunit ∷ []) refl $ move ! (6 ∷ 7 ∷ []) $ fjoin ! $
    move ! (4 ∷ 0 ∷ []) $ fjoin ! $ nothing ! $ nothing ! $ fjoin ! $
    feq_i ! (List Val) (v ∷ []) (v ∷ []) refl $ move ! (0 ∷ 6 ∷ 7 ∷ []) $ fjoin3 ! $ fjoin ! $
    feq_i ! (List Val) (u ∷ []) (u ∷ []) refl $ move ! (0 ∷ 4 ∷ 5 ∷ []) $ fjoin3 ! $ fjoin ! $
    returns ! (look_at ! 0 refl) $ free_all ! refl $ keep ! (1 ∷ 0 ∷ 2 ∷ []) $
    suffices ! _ (leaves 𝓛 T stayed c y vunit tt (trace', (claim', (tt, tt))) (tt, (tt, (tt, tt)))) $
    frame ! $ frame ! $ frame ! $ by ! (fact_i 𝓤 _ (emp 𝓤) (record {
      more = more;
      allowed = asked.1;
      written = refl;
      saw_all = refl;
      claimed = refl;
      saw_prefix = shown.0;
      below = shown.1;
      apart = shown.2;
    }))))))))
