-- What `==` says of calls and of receives.
use Rattle.std.proofs.Common.{◌≡◌, ◌==◌, ◌&&◌, Bool, true, List, [], ◌∷◌, refl, ap, ◌∙◌}
use Rattle.std.proofs.lemmas.Bool.{and_parts, eqb-true, false≢true}
use Rattle.std.specs.Cmp.Lexicographic.{pointwise}
use Rattle.flume_model.specs.declared.step.Kind.{Kind}
use Rattle.flume_model.specs.declared.step.Kind.TheVariants.{Block, Plain, Stream, Arm}
use Rattle.flume_model.specs.contracts.step.KindPartialEq.TheImpl as kinds
use Rattle.judge_search.specs.declared.configuration.OpenCall.{OpenCall}
use Rattle.judge_search.specs.declared.configuration.ParkedReceive.{ParkedReceive}
use Rattle.judge_search.specs.declared.configuration.Progress.{Progress}
use Rattle.judge_search.specs.declared.configuration.Progress.TheVariants.{Begun, Tried, Parked, Refused, Done}
use Rattle.judge_search.specs.declared.configuration.Status.{Status}
use Rattle.judge_search.specs.declared.configuration.Status.TheVariants.{Waiting, Woken, Filled}
use Rattle.judge_search.specs.contracts.configuration.OpenCallPartialEq.TheImpl as calls
use Rattle.judge_search.specs.contracts.configuration.ParkedReceivePartialEq.TheImpl as receives
use Rattle.judge_search.specs.contracts.configuration.ProgressPartialEq.TheImpl as progresses
use Rattle.judge_search.specs.contracts.configuration.StatusPartialEq.TheImpl as standings

-- lists are the same if each element is the one in its place
pub same_lists : {X : Type 0} (E : X → X → Bool) → ((x y : X) → E x y ≡ true → x ≡ y) → (xs ys : List X) → pointwise E xs ys ≡ true
    → xs ≡ ys
same_lists E same [] [] is = refl
same_lists E same [] (y ∷ ys) is = absurd (false≢true is)
same_lists E same (x ∷ xs) [] is = absurd (false≢true is)
same_lists E same (x ∷ xs) (y ∷ ys) is =
    let both = and_parts (E x y) (pointwise E xs ys) is in
    ap (λ z. z ∷ xs) (same x y both.0) ∙ ap (λ zs. y ∷ zs) (same_lists E same xs ys both.1)

-- kinds are the same if `==` says so; and so are the others
same_kind : (k l : Kind) → kinds.eq-value.it k l ≡ true → k ≡ l
same_kind Block Block is = refl
same_kind Plain Plain is = refl
same_kind Stream Stream is = refl
same_kind Arm Arm is = refl
same_kind _ _ is = absurd (false≢true is)

-- how receives stand
same_standing : (s u : Status) → standings.eq-value.it s u ≡ true → s ≡ u
same_standing Waiting Waiting is = refl
same_standing Woken Woken is = refl
same_standing (Filled p) (Filled q) is = ap Filled (eqb-true p q is)
same_standing _ _ is = absurd (false≢true is)

-- how far calls are
same_progress : (p q : Progress) → progresses.eq-value.it p q ≡ true → p ≡ q
same_progress Begun Begun is = refl
same_progress Tried Tried is = refl
same_progress Parked Parked is = refl
same_progress Refused Refused is = refl
same_progress Done Done is = refl
same_progress _ _ is = absurd (false≢true is)

-- receives
same_receive : (x y : ParkedReceive) → receives.eq-value.it x y ≡ true → x ≡ y
same_receive x y is =
    let places = and_parts (x.place == y.place) (kinds.eq-value.it x.kind y.kind && standings.eq-value.it x.status y.status) is in
    let rest = and_parts (kinds.eq-value.it x.kind y.kind) (standings.eq-value.it x.status y.status) places.1 in
    ap (λ p. record { place = p; kind = x.kind; status = x.status }) (eqb-true x.place y.place places.0)
    ∙ ap (λ k. record { place = y.place; kind = k; status = x.status }) (same_kind x.kind y.kind rest.0)
    ∙ ap (λ s. record { place = y.place; kind = y.kind; status = s }) (same_standing x.status y.status rest.1)

-- calls
same_call : (x y : OpenCall) → calls.eq-value.it x y ≡ true → x ≡ y
same_call x y is =
    let both = and_parts (x.place == y.place) (progresses.eq-value.it x.progress y.progress) is in
    ap (λ p. record { place = p; progress = x.progress }) (eqb-true x.place y.place both.0)
    ∙ ap (λ p. record { place = y.place; progress = p }) (same_progress x.progress y.progress both.1)

-- lists of receives
pub same_receives : (xs ys : List ParkedReceive) → pointwise receives.eq-value.it xs ys ≡ true → xs ≡ ys
same_receives xs ys is = same_lists receives.eq-value.it same_receive xs ys is

-- lists of calls
pub same_calls : (xs ys : List OpenCall) → pointwise calls.eq-value.it xs ys ≡ true → xs ≡ ys
same_calls xs ys is = same_lists calls.eq-value.it same_call xs ys is
