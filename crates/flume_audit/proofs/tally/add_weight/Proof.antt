-- `add_weight` opens both references, and both tokens get the weight. Assumes `Logic`.
use Rattle.std.proofs.Common.{◌≡◌, ℕ, ◌+◌, ◌<◌, List, [], ◌∷◌, refl}
use seplogic.Ra.Ura.{Ura}
use mir.Syntax.{Fn, Args, Dict, dcons, dnil, a_type}
use mir.Val.{Val, vunit}
use mir.MapTy.{inst_fn}
use base.Logic.{ent, sep, emp}
use base.Fml.{flft}
use prog.Wp.{WpFn, Closed}
use prog.Model.{Model}
use types.Logic.{Logic}
use contract.BorrowLft.{◌⊑◌}
use contract.Lifetimes.{Lfts, Shares, AllOutlive, toks}
use contract.Monad.{fact, fact_i}
use contract.Running.{Running, MachineTables, tables}
use types.Kit.{‵, raw, ◌⊛◌, later, ◌$◌, ◌∵◌, !, qed, by, move, keep, drop, use0, use2, split, group}
use types.Kit.{fsplit, fsplit3, fjoin, fjoin3, feq_i, await, suffices, frame}
use types.Run.{enter, returns, of_opd, unit_lit}
use types.ByLocal.{alloc_all, pass_all, free_all, look_at, sets}
use denote.Exit.{yes}
use denote.RattleType.{RattleType, owns}
use denote.Builtin.{RefOf}
use denote.Param.{param, bounded}
use denote.Ref.{mut_vals, shr_vals}
use denote.Signature.{Slot, plain, types_at}
use denote.Steps.{nothing, heard, opens, closes}
use denote.Triple.Clauses.{Ended, Clauses, closing}
use denote.Triple.Entry as entry
use denote.Triple.Spec.{Meets}
use denote.Triple.Walked.{Stays, walk_of, stay_ref, stay_dropped, Goes-ref, Goes-dropped}
use Rattle.std.proofs.raw_atomic.Walks.{proved, leaves}
use Rattle.std.specs.Sync.Ledger.{book_owns, share_owns}
use Rattle.std.specs.declared.alloc.Allocator as allocator
use Rattle.std.specs.declared.sync.ledger.Ledger as ledger
use Rattle.std.specs.contracts.sync.ledger.Book as book
use Rattle.std.specs.contracts.sync.ledger.Share as share
use Rattle.flume_model.specs.contracts.step.Step as step
use Rattle.flume_model.specs.contracts.step.Reply as reply
use Rattle.flume_audit.specs.declared.weigh.Weigh as weigh
use Rattle.flume_audit.specs.contracts.tally.add_weight as agreed
use Rattle.flume_audit.specs.contracts.tally.add_weight.Key.{name as #self}
use Rattle.flume_audit.proofs.tally.OpeningLemmas.{tokens_raised}
use Rattle.flume_audit.proofs.tally.add_weight.Statement.{statement}
use Rattle.flume_audit.proofs.tally.add_weight.Code as code

-- three facts at once
all_three : {M : Type 1} {𝓤 : Ura M} (𝓛 : Logic 𝓤) (φ ψ χ : Type 0) → φ → ψ → χ
    → ent 𝓤 (emp 𝓤) (sep 𝓤 (fact 𝓤 φ) (sep 𝓤 (fact 𝓤 ψ) (fact 𝓤 χ)))
all_three {𝓤 = 𝓤} 𝓛 φ ψ χ x y z = qed 𝓛 [] ∵
    use0 𝓛 (raw (fact 𝓤 φ)) (fact_i 𝓤 φ (emp 𝓤) x) $ frame ! $
    use0 𝓛 (raw (fact 𝓤 ψ)) (fact_i 𝓤 ψ (emp 𝓤) y) $ frame ! $ by ! (fact_i 𝓤 χ (emp 𝓤) z)

-- the ghosts and dictionaries of the bounds: of the allocator, the ledger, the weight, the drop
module _ (T A L W : RattleType)
    (gA : allocator.Ghosts A.Denot) (dA : Dict) (gL : ledger.Ghosts L.Denot) (dL : Dict)
    (gW : weigh.Ghosts W.Denot T.Denot A.Denot) (dW : Dict) (dD : Dict) where
  -- the type of a book of L
  abbrev Books : RattleType
  Books = book.the_row (param 2 L) gL

  -- the type of a share of L
  abbrev Shared : RattleType
  Shared = share.the_row (param 2 L) gL

  -- the parameter `step`
  abbrev step_slot : Slot 8
  step_slot = RefOf (2 ∷ []) tt (plain (λ _. step.the_row (param 0 T))) (λ _. tt)

  -- the parameter `reply`
  abbrev reply_slot : Slot 8
  reply_slot = RefOf (3 ∷ []) tt (plain (λ _. reply.the_row (param 0 T) (param 1 A) gA)) (λ _. tt)

  -- the function's types and their dictionaries
  abbrev instance : Args
  instance = bounded (a_type ∷ a_type ∷ a_type ∷ a_type ∷ []) (T, (A, (L, (W, tt))))
      (dcons dA (dcons dL (dcons dW (dcons dD dnil))))

  -- the code at these types
  abbrev function : Fn
  function = inst_fn instance code.function

  -- the function's contract, but for its clauses
  abbrev ended : Ended
  ended = agreed.ended T A L W gA dA gL dL gW dW dD

  -- the tokens' references are still owned at the return, and nothing of the others
  abbrev stayed : Stays ended.signature.params ended.kept
  stayed = (
    stay_ref (0 ∷ []) tt (plain (λ _. Books)),
    (
      stay_ref (1 ∷ []) tt (plain (λ _. Shared)),
      (stay_dropped step_slot yes, (stay_dropped reply_slot yes, tt)),
    ),
  )

  module _ {M : Type 1} {𝓤 : Ura M} (𝓛 : Logic 𝓤) (𝓜 : Model 𝓤 𝓛.H) (𝓡 : Running 𝓤 𝓛.H 𝓜) where
    -- what a call and a loop of the code run
    abbrev 𝓣 : MachineTables 𝓤 𝓛.H 𝓜
    𝓣 = tables 𝓤 𝓛.H 𝓜 𝓡 𝓡.env

    -- the contract's clauses
    abbrev clauses : Clauses 𝓤 ended
    clauses = agreed.clauses T A L W gA dA gL dL gW dW dD 𝓛 𝓜.mem 𝓡.returns

    module _ (κs : Lfts 8) (qs : Shares 8) (bounds : AllOutlive 8 ended.signature.outlives κs)
        (a : entry.Args ended.signature κs) where
      -- the arguments as the machine has them
      abbrev stored : List Val × (List Val × (List Val × (List Val × Unit {0})))
      stored = (mut_vals a.0, (mut_vals a.1.0, (shr_vals a.1.1.0, (shr_vals a.1.1.1.0, tt))))

      -- the lifetimes, the shares of their tokens, the arguments, and no ghost value
      abbrev call : (walk_of 𝓛 ended stayed clauses).Ghost
      call = ((κs, qs, bounds, a, stored), tt)

      -- the weight
      abbrev weight : ℕ
      weight = gW.weight a.1.1.0.now a.1.1.1.0.now

      -- the book at the return
      abbrev book_after : Books.Denot
      book_after = record (a.0.now) { total = a.0.now.total + weight }

      -- the share at the return
      abbrev share_after : Shared.Denot
      share_after = record (a.1.0.now) { amount = a.1.0.now.amount + weight }

      -- from the entry to the return: both tokens are opened, get the weight and are closed
      walks : ent 𝓤 ((walk_of 𝓛 ended stayed clauses).pre call)
          (WpFn 𝓤 𝓛.H 𝓣.C 𝓣.Λ function ((walk_of 𝓛 ended stayed clauses).args call)
          ((walk_of 𝓛 ended stayed clauses).post call))
      walks =
          let the_book = a.0 in
          let the_share = a.1.0 in
          qed 𝓛 (((‵ (flft κs.0 qs.0) ⊛ ‵ (flft κs.1.0 qs.1.0) ⊛ raw (toks 𝓛 6 κs.1.1 qs.1.1))
          ⊛ ‵ (owns (types_at ended.signature.params κs) a stored))
          ∷ (raw (fact 𝓤 (κs.1.1.1.1.0 ⊑ T.lives)) ⊛ raw (fact 𝓤 (κs.1.1.1.1.1.0 ⊑ A.lives))
          ⊛ raw (fact 𝓤 (κs.1.1.1.1.1.1.0 ⊑ L.lives)) ⊛ raw (fact 𝓤 (κs.1.1.1.1.1.1.1.0 ⊑ W.lives))
          ⊛ raw (fact 𝓤 (0 < the_share.now.parts))) ∷ []) ∵
          move ! (1 ∷ []) $
          split ! $ drop ! $ split ! $ drop ! $ split ! $ drop ! $ split ! $ drop ! $
          heard ! (0 < the_share.now.parts) (λ has_part.
          split ! $ split ! $ move ! (1 ∷ []) $ split ! $ move ! (3 ∷ []) $
          fsplit ! $ fsplit3 ! $ drop ! $ move ! (2 ∷ []) $
          fsplit ! $ fsplit3 ! $ drop ! $ keep ! (3 ∷ 4 ∷ 7 ∷ 0 ∷ 1 ∷ 5 ∷ 6 ∷ []) $
          -- [the book's reference, 2, with its token; the share's, 2, with its token; the others]
          enter ! _ _ _ _ _ $
          alloc_all ! (λ l. pass_all ! refl ((tt, tt), ((tt, tt), ((tt, tt), ((tt, tt), tt)))) $
          opens ! tt Books the_book.ref_ptr.0 the_book.ref_ptr.1 (λ us.
          move ! (5 ∷ 6 ∷ 7 ∷ []) $
          opens ! tt Shared the_share.ref_ptr.0 the_share.ref_ptr.1 (λ vs.
          move ! (1 ∷ []) $ fsplit ! $
          move ! (7 ∷ []) $ fsplit ! $ move ! (1 ∷ 3 ∷ []) $
          -- [what the book owns; what the share owns; their fields; their cells]
          use2 𝓛 (later (‵ (book_owns gL.name gL.parts book_after.total)
          ⊛ ‵ (share_owns gL.name gL.parts share_after.parts share_after.amount)))
          (tokens_raised 𝓛 gL.name gL.parts weight the_book.now.total
          (the_share.now.parts, the_share.now.amount) has_part) $
          await ! tt $ split ! $ move ! (2 ∷ 0 ∷ []) $ fjoin ! $ move ! (2 ∷ 1 ∷ []) $ fjoin ! $
          move ! (2 ∷ 0 ∷ 3 ∷ 4 ∷ 5 ∷ []) $
          closes ! tt Shared share_after vs the_share.ref_ptr.0 the_share.ref_ptr.1 $
          move ! (4 ∷ 3 ∷ 5 ∷ 6 ∷ 7 ∷ []) $
          closes ! tt Books book_after us the_book.ref_ptr.0 the_book.ref_ptr.1 $
          sets ! (of_opd ! (unit_lit !)) refl (tt, tt) $
          returns ! (look_at ! 0 refl) $ free_all ! refl $
          suffices ! _ (leaves 𝓛 ended stayed clauses call vunit tt
          (book_after, (share_after, (tt, (tt, tt)))) (tt, (tt, (tt, (tt, tt))))) $
          feq_i ! (List Val) (mut_vals the_book) (mut_vals the_book) refl $ fjoin3 ! $
          move ! (2 ∷ 3 ∷ []) $
          feq_i ! (List Val) (mut_vals the_share) (mut_vals the_share) refl $ fjoin3 ! $
          nothing ! $ nothing ! $ fjoin ! $ nothing ! $ fjoin ! $
          move ! (1 ∷ 0 ∷ []) $ fjoin ! $ move ! (1 ∷ 0 ∷ []) $ fjoin ! $
          move ! (1 ∷ 2 ∷ 3 ∷ []) $ group ! 3 $ frame ! $ frame ! $
          feq_i ! (List Val) (vunit ∷ []) (vunit ∷ []) refl $ frame ! $
          by ! (all_three 𝓛 (book_after.total ≡ the_book.now.total + weight)
          (share_after.amount ≡ the_share.now.amount + weight)
          (share_after.parts ≡ the_share.now.parts) refl refl refl)))))

    -- the code at these types meets the contract
    meets : Closed 𝓤 𝓛.H 𝓣.C 𝓣.Λ (#self instance) function
        → Meets 𝓛 ended.signature (𝓣.C (#self instance)) (closing 𝓛 ended clauses)
    meets closed =
        proved 𝓛 ended stayed clauses 𝓜 𝓡 (
          Goes-ref 𝓛 8 0 tt (plain (λ _. Books)),
          (
            Goes-ref 𝓛 8 1 tt (plain (λ _. Shared)),
            (
              Goes-dropped 𝓛 8 step_slot yes (λ κs x f. refl),
              (Goes-dropped 𝓛 8 reply_slot yes (λ κs x f. refl), tt),
            ),
          ),
        )
        (#self instance) function closed
        (λ κs. (mut_vals, (mut_vals, (shr_vals, (shr_vals, tt)))))
        (λ κs. (λ x vs is. is.0, (λ x vs is. is.0, (λ x vs is. is.0, (λ x vs is. is.0, tt)))))
        (λ κs qs bounds a g are. walks κs qs bounds a)

-- the function meets its contract at all types
pub add_weight_spec : {M : Type 1} → statement M
add_weight_spec 𝓤 𝓛 𝓜 𝓡 wired T A L W _ _ _ _ gA dA gL dL gW dW dD _ _ _ _ =
    meets T A L W gA dA gL dL gW dW dD 𝓛 𝓜 𝓡
    (code.unfolded 𝓤 𝓛.H 𝓜 𝓡 wired (T, (A, (L, (W, tt)))) dA dL dW dD)
