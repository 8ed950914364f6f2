-- Patterns that are seen at places.
use Rattle.std.proofs.Common.{◌≡◌, ◌<◌, ◌≤◌, ◌+◌, ◌-◌, ℕ, suc, Bool, true, false, List, [], ◌∷◌, ◌++◌, refl, sym, ap, ◌∙◌, subst, get_or}
use Rattle.std.proofs.Common.{length, take, drop, arith, append_assoc, take-append-drop, drop-cons, get_or-take, get_or-drop, length-drop}
use Rattle.std.proofs.Common.{length-take-le}
use Rattle.std.specs.List.{Contains}
use Rattle.judge_calls.specs.declared.call.Call.{Call}
use Rattle.judge_calls.specs.declared.call.Answer.{Answer}
use Rattle.judge_calls.specs.declared.call.Answer.TheVariants.{Got}
use Rattle.judge_calls.specs.declared.event.Event.{Event}
use Rattle.judge_calls.specs.declared.event.Event.TheVariants.{Begins, Returns}
use Rattle.judge_calls.specs.Patterns.{begins_send, all_returned, IsOutOfOrder, IsUnsent}

module _ {X : Type 0} where
  -- a list, split at the element at a place
  pub split_at : (xs : List X) (k : ℕ) (x : X) → k < length xs → x ≡ get_or xs k x → xs ≡ take k xs ++ x ∷ drop (k + 1) xs
  split_at xs k x within is =
      sym (take-append-drop k xs) ∙ ap (λ ys. take k xs ++ ys) (drop-cons xs k x within ∙ ap (λ y. y ∷ drop (suc k) xs) (sym is)
      ∙ ap (λ n. x ∷ drop n xs) (let more : suc k ≡ k + 1 = omega arith in more))

  -- an element that is found between two places
  contains_between : (xs : List X) (low place high : ℕ) (x : X) → low ≤ place → place < high → high ≤ length xs → x ≡ get_or xs place x
      → Contains (take (high - low) (drop low xs)) x
  contains_between xs low place high x above below within is =
      let size : length (take (high - low) (drop low xs)) ≡ high - low = length-take-le (high - low) (drop low xs)
      (rw length-drop (omega arith)) in
      let at : low + (place - low) ≡ place = omega arith in (
        place - low,
        omega arith,
        get_or-take (high - low) (drop low xs) (place - low) x (omega arith) ∙ get_or-drop low xs (place - low) x
            ∙ ap (λ n. get_or xs n x) at ∙ sym is,
      )

module _ {T A : Type 0} where
  -- the last event receives what no event before begins to send
  pub unsent_at : (equal : T → T → Bool) (events before : List (Event T A)) (last : Event T A) (thread : ℕ) (message : T)
      → events ≡ before ++ last ∷ [] → last ≡ Returns thread (Got message) → begins_send (equal message) before ≡ false
      → IsUnsent equal events
  unsent_at equal events before last thread message parts is none = record {
    message = message;
    thread = thread;
    before = before;
    parts = parts ∙ ap (λ e. before ++ e ∷ []) is;
    unsent = none;
  }

  -- two messages are out of order at these places
  pub out_of_order : (equal : T → T → Bool) (events before : List (Event T A)) (last at_received at_begun : Event T A)
      (sent received begun : ℕ)
      (thread other : ℕ) (call : Call T) (first second : T)
      → events ≡ before ++ last ∷ [] → last ≡ Returns thread (Got first) → sent ≤ received → received < begun → begun < length before
      → at_received ≡ get_or before received at_received → at_received ≡ Returns other (Got second)
      → at_begun ≡ get_or before begun at_begun → at_begun ≡ Begins thread call
      → all_returned (equal first) (take sent before) ≡ true → begins_send (equal first) (drop sent before) ≡ false
      → begins_send (equal second) (take sent before) ≡ false → IsOutOfOrder equal events
  out_of_order equal events before last at_received at_begun sent received begun thread other call first second parts last_is above below
      within
      received_at received_is new_call begun_is returned no_first no_second =
      let late = drop sent before in
      let at : sent + (begun - sent) ≡ begun = omega arith in
      let size : length late ≡ length before - sent = length-drop sent before in
      let is_received : Returns other (Got second) ≡ get_or before received (Returns other (Got second)) =
      subst (λ e. e ≡ get_or before received e) received_is received_at in
      let is_begun : Begins thread call ≡ get_or before begun (Begins thread call) =
      subst (λ e. e ≡ get_or before begun e) begun_is new_call in
      let begins : Begins thread call ≡ get_or late (begun - sent) (Begins thread call) =
      is_begun ∙ ap (λ n. get_or before n (Begins thread call)) (sym at)
      ∙ sym (get_or-drop sent before (begun - sent) (Begins thread call)) in
      let between = take (begun - sent) late in
      let inner = drop (begun - sent + 1) late in
      let whole : late ≡ between ++ Begins thread call ∷ inner = split_at late (begun - sent) (Begins thread call) (omega arith) begins in
      record {
        first = first;
        second = second;
        early = take sent before;
        between = between;
        inner = inner;
        receiver = thread;
        call = call;
        parts = parts ∙ ap (λ e. before ++ e ∷ []) last_is
            ∙ ap (λ e. e ++ Returns thread (Got first) ∷ []) (sym (take-append-drop sent before) ∙ ap (λ e. take sent before ++ e) whole
            ∙ sym (append_assoc (take sent before) between (Begins thread call ∷ inner)));
        no_second = no_second;
        first_sent = returned;
        no_first = subst (λ e. begins_send (equal first) e ≡ false) whole no_first;
        other = other;
        second_received = contains_between before sent received begun (Returns other (Got second)) above below (omega arith) is_received;
      }
