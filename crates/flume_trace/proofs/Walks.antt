-- The names of the logic that the walks cite.
pub use Rattle.std.proofs.Common.{ℕ, List, [], ◌∷◌, ◌++◌, length, refl}
pub use Rattle.std.proofs.raw_atomic.Walks.{proved, leaves}
pub use seplogic.Ra.Ura.{Ura}
pub use mir.Syntax.{a_type, dcons, dnil, named}
pub use mir.Val.{Val, vunit, vptr, vstruct, vcons, vnil, of_list}
pub use mir.MapTy.{inst_fn}
pub use base.Logic.{SProp, emp, id⊢}
pub use base.Fml.{Fml, ftrue, fsep, feq, flft}
pub use contract.Monad.{fact, fact_i}
pub use contract.Running.{tables}
pub use types.Kit.{‵, raw, ◌⊛◌, some, given, later, ◌$◌, ◌∵◌, !, qed, by, move, keep, drop, split}
pub use types.Kit.{fsplit, fsplit3, fjoin, fjoin3, fpack, feq_i, pick, learn, use1, use2, use0}
pub use types.Kit.{await, rewrite, suffices, frame}
pub use types.Run.{enter, of_opd, unit_lit, no_more, and_then, returns}
pub use types.ByLocal.{alloc_all, pass_all, free_all, look_at, get, sets}
pub use types.Part.{agg}
pub use denote.Builtin.{RefOf, unit}
pub use denote.Exit.{yes, no}
pub use denote.Param.{param, bounded}
pub use denote.RattleType.{RattleType, owns, Valss}
pub use denote.Ref.{mut_vals, mut_Tells, shr_vals, shr_Tells}
pub use denote.Shadow.{pure_i}
pub use denote.Signature.{types_at, plain}
pub use denote.Steps.{nothing, opens, closes}
pub use denote.Struct.Tuple.{Tuple}
pub use denote.Triple.Walked.{Stays, walk_of, says, stay_dropped, stay_ref, Goes-dropped, Goes-ref}
