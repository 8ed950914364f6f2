-- An empty trace gets its name, and a claim. Assumes `Logic`.
use Rattle.flume_trace.proofs.Walks.{ℕ, List, [], ◌∷◌, ◌++◌, refl, proved, leaves, a_type, dcons}
use Rattle.flume_trace.proofs.Walks.{dnil, Val, vstruct, vcons, vnil, of_list, inst_fn, emp, Fml}
use Rattle.flume_trace.proofs.Walks.{ftrue, fsep, feq, flft, fact, fact_i, tables, ‵, raw, ◌⊛◌}
use Rattle.flume_trace.proofs.Walks.{given, ◌$◌, ◌∵◌, !, qed, by, move, keep, drop, split, fsplit}
use Rattle.flume_trace.proofs.Walks.{fjoin, fpack, feq_i, learn, use1, rewrite, suffices, frame}
use Rattle.flume_trace.proofs.Walks.{enter, no_more, and_then, returns, alloc_all, pass_all}
use Rattle.flume_trace.proofs.Walks.{free_all, look_at, get, sets, agg, unit, yes, param, bounded}
use Rattle.flume_trace.proofs.Walks.{RattleType, owns, Valss, pure_i, types_at, plain, nothing}
use Rattle.flume_trace.proofs.Walks.{Tuple, Stays, walk_of, stay_dropped, Goes-dropped}
use Rattle.flume_trace.specs.Tokens.{unopened_owns, trace_owns, claim_owns}
use Rattle.flume_trace.specs.contracts.UnopenedTrace as UnopenedTrace
use Rattle.flume_trace.specs.contracts.Trace as Trace
use Rattle.flume_trace.specs.contracts.Claim as Claim
use Rattle.flume_trace.specs.contracts.UnopenedTrace.«open».{ended, clauses}
use Rattle.flume_trace.specs.contracts.UnopenedTrace.«open».Key.{name as #self}
use Rattle.flume_trace.proofs.ChangeLemmas as change
use Rattle.flume_trace.proofs.MarkerLemmas.{mark, Marker, is_mark, mark_pure, mark_shadow}
use Rattle.flume_trace.proofs.UnopenedTrace.«open».Statement.{statement}
use Rattle.flume_trace.proofs.UnopenedTrace.«open».Code as code

-- the value of a pair of two marked structs
abbrev pair : Val
pair = vstruct (vcons mark (vcons mark vnil))

pub open_spec : {M : Type 1} → statement M
open_spec 𝓤 𝓛 𝓜 𝓡 wired E J _ _ g d _ =
    let H = 𝓛.H in
    let 𝓣 = tables 𝓤 H 𝓜 𝓡 𝓡.env in
    let T = ended E J g d in
    let instance = bounded (a_type ∷ a_type ∷ []) (E, (J, tt)) (dcons d dnil) in
    let c = clauses E J g d 𝓛 𝓜.mem 𝓡.returns in
    let cv = (param 0 E).coded in
    let U : RattleType = UnopenedTrace.the_row in
    let R : RattleType = Trace.the_row (param 0 E) (param 1 J) g in
    let S : RattleType = Claim.the_row (param 0 E) (param 1 J) g in
    let Both : RattleType = Tuple (param 0 E ∷ param 1 J ∷ []) in
    let stayed : Stays T.signature.params T.kept = (stay_dropped (plain (λ _. U)) yes, tt) in
    let W = walk_of 𝓛 T stayed c in
    proved 𝓛 T stayed c 𝓜 𝓡 (Goes-dropped 𝓛 2 (plain (λ _. U)) yes (λ κs x f. refl), tt)
    (#self instance) (inst_fn instance code.function)
    (code.unfolded 𝓤 H 𝓜 𝓡 wired (E, (J, tt)) d)
    (λ κs. ((λ x. mark ∷ []), tt)) (λ κs. ((λ x vs is. is_mark unit vs is.0), tt))
    (λ κs qs bounds a gh are.
    let y : W.Ghost = ((κs, qs, bounds, a, (mark ∷ [], tt)), gh) in
    let trace : R.Denot = record { marker = record {}; writes = [] } in
    let claim : S.Denot = record { marker = record {}; seen = []; positions = [] } in
    let marked : Fml = (Marker Both).own_val (record {}, tt) (mark ∷ []) in
    qed 𝓛 ((‵ (fsep (flft κs.0 qs.0) (fsep (flft κs.1.0 qs.1.0) ftrue))
    ⊛ ‵ (owns (types_at T.signature.params κs) a y.0.4))
    ∷ raw (fact 𝓤 _) ∷ raw (fact 𝓤 _) ∷ given _ (‵ ftrue) ∷ []) ∵
    keep ! (3 ∷ 0 ∷ []) $ learn ! (λ names. drop ! $ split ! $
    move ! (1 ∷ []) $ fsplit ! $ fsplit ! $ keep ! (1 ∷ 3 ∷ []) $
    enter ! _ _ _ _ _ $ alloc_all ! (λ l. pass_all ! refl ((tt, (tt, tt)), tt) $
    rewrite ! 0 (λ (z : ℕ × ℕ). ‵ (unopened_owns z.0 z.1)) (λ i. (names.0 i, names.1 i)) refl $
    use1 𝓛 (‵ (trace_owns cv.code g.trace_name g.positions_name [])
    ⊛ ‵ (claim_owns cv.code g.trace_name g.positions_name [] []))
    (change.is_opened 𝓛 cv g.trace_name g.positions_name) $ split ! $
    -- the code makes the trace, then the claim, then the pair
    sets ! (agg ! (no_more !)) refl (tt, tt) $
    sets ! (agg ! (and_then ! (get ! refl) (no_more !))) refl (tt, (tt, tt)) $
    sets ! (agg ! (no_more !)) refl (tt, tt) $
    sets ! (agg ! (and_then ! (get ! refl) (no_more !))) refl (tt, (tt, tt)) $
    sets ! (agg ! (and_then ! (get ! refl) (and_then ! (get ! refl) (no_more !)))) refl
    (tt, ((tt, tt), ((tt, tt), tt))) $
    pure_i ! marked (mark_pure Both) (mark_shadow Both) $ fjoin ! $
    pure_i ! marked (mark_pure Both) (mark_shadow Both) $ move ! (0 ∷ 2 ∷ []) $ fjoin ! $
    -- [what the claim is; what the trace is; the tokens]
    nothing ! $ move ! (1 ∷ 0 ∷ []) $ fjoin ! $ move ! (1 ∷ 0 ∷ []) $ fjoin ! $
    feq_i ! (List Val) (pair ∷ []) (pair ∷ []) refl $ fjoin ! $
    fpack ! (Valss (R ∷ S ∷ [])) (λ vss. fsep (feq (List Val) (pair ∷ [])
    (vstruct (of_list (vss.0 ++ (vss.1.0 ++ []))) ∷ [])) (owns (R ∷ S ∷ []) (trace, (claim, tt)) vss))
    (mark ∷ [], (mark ∷ [], tt)) $
    nothing ! $ nothing ! $ fjoin ! $
    returns ! (look_at ! 0 refl) $ free_all ! refl $ keep ! (2 ∷ 0 ∷ 1 ∷ []) $
    suffices ! _ (leaves 𝓛 T stayed c y pair (trace, claim) (tt, tt) (tt, tt)) $
    frame ! $ frame ! $ frame ! $ by ! (fact_i 𝓤 _ (emp 𝓤) (refl, refl, refl)))))
