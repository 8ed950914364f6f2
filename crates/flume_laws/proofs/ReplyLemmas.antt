-- What callers cite: clients that ask one server, and what it replies to each.
use Rattle.std.proofs.Common.{◌≡◌, Bool, true, false, not, ◌&&◌, List, [], ◌∷◌, ◌++◌, map, refl, ap}
use Rattle.std.proofs.Common.{sym, subst, ◌∙◌, arith}
use Rattle.std.proofs.lemmas.List.{append-nil, map-append}
use Rattle.std.proofs.lemmas.List.Elements.{filter-append}
use Rattle.std.proofs.lemmas.List.Folds.{list_all-append}
use Rattle.std.proofs.lemmas.Simd.{map-map}
use Rattle.std.specs.List.{filter, list_all}
use Rattle.flume_party.specs.Interleavings.{Interleaving, End, Left, Right}
use Rattle.flume_party.specs.Parties.{PartyState}
use Rattle.flume_party.proofs.InterleavingLemmas.{interleaved_swap, interleaved_pass}
use Rattle.flume_actions.specs.Actions.{Action}
use Rattle.flume_actions.specs.Calls.{HasCalled}
use Rattle.flume_actions.specs.Callers.{HasMadeCalls}
use Rattle.flume_actions.proofs.CallerLemmas.{no_call, and_call, and_calls}
use Rattle.flume_laws.specs.Together.{Interleaved, AreExchanged}
use Rattle.flume_laws.specs.Forwards.{HasServed, replies_to}
use Rattle.flume_laws.proofs.JoinLemmas.{right_first, parted}
use Rattle.flume_laws.proofs.TakeInLemmas.{one_in_order}

module _ {X Y : Type 0} where
  -- the replies to some requests, and to more
  replies_append : (test : X → Bool) (reply : X → Y) (some more : List X)
      → replies_to test reply (some ++ more)
      ≡ replies_to test reply some ++ replies_to test reply more
  replies_append test reply some more =
      ap (map reply) (filter-append test some more)
      ∙ map-append reply (filter test some) (filter test more)

module _ {X Y A : Type 0} {is_of_second : X → Bool} {reply : X → Y} where
  -- no request yet
  pub no_request : (reader : PartyState (Action X A)) (first second : PartyState (Action Y A))
      → HasServed is_of_second reply reader reader first first second second
  no_request reader first second = record {
    requests = [];
    got = no_call reader;
    to_first = no_call first;
    to_second = no_call second;
  }

  -- a request more, and its reply
  pub and_request : {reader reader' reader'' : PartyState (Action X A)}
      {first first' first'' second second' second'' : PartyState (Action Y A)} {x : X}
      → HasServed is_of_second reply reader reader' first first' second second'
      → HasCalled reader' reader'' [] (x ∷ [])
      → HasMadeCalls first' first'' (replies_to (λ x. not (is_of_second x)) reply (x ∷ [])) []
      → HasMadeCalls second' second'' (replies_to is_of_second reply (x ∷ [])) []
      → HasServed is_of_second reply reader reader'' first first'' second second''
  and_request {x = x} before got to_first to_second = record {
    requests = before.requests ++ x ∷ [];
    got = and_call before.got got refl refl;
    to_first = and_calls before.to_first to_first
        (replies_append (λ x. not (is_of_second x)) reply before.requests (x ∷ [])) refl;
    to_second = and_calls before.to_second to_second
        (replies_append is_of_second reply before.requests (x ∷ [])) refl;
  }

  -- a call more, which got none
  pub and_no_request : {reader reader' reader'' : PartyState (Action X A)}
      {first first' second second' : PartyState (Action Y A)}
      → HasServed is_of_second reply reader reader' first first' second second'
      → HasCalled reader' reader'' [] []
      → HasServed is_of_second reply reader reader'' first first' second second'
  and_no_request before got = record {
    requests = before.requests;
    got = and_call before.got got refl (sym (append-nil before.requests));
    to_first = before.to_first;
    to_second = before.to_second;
  }

-- before the loop of such a server, after one more request, and at the end
pub ruleset reply_steps = (no_request, and_request, and_no_request)

-- if both together are true, each is
both_true : (a b : Bool) → (a && b) ≡ true → (a ≡ true) × (b ≡ true)
both_true true b is = (refl, is)
both_true false b is = absurd cc

module _ {X : Type 0} where
  -- a test that the elements of one list pass, and none of the other, tells them apart
  apart : (test : X → Bool) (xs ys zs : List X) → Interleaving xs ys zs
      → list_all test xs ≡ true → list_all (λ y. not (test y)) ys ≡ true → filter test zs ≡ xs
  apart test _ _ _ End pass fail = refl
  apart test _ _ _ (Left {x = x} {xs = xs} {ys = ys} {zs = zs} rest) pass fail =
      grind (arith, apart test xs ys zs rest, pass, fail)
  apart test _ _ _ (Right {y = y} {xs = xs} {ys = ys} {zs = zs} rest) pass fail =
      grind (arith, apart test xs ys zs rest, pass, fail)

  -- what is merged passes a test if all lists do
  merged_pass : (test : X → Bool) (lists : List (List X)) (line : List X) → Interleaved lists line
      → list_all (list_all test) lists ≡ true → list_all test line ≡ true
  merged_pass test [] line none pass =
      subst (λ list. list_all test list ≡ true) (sym none) refl
  merged_pass test (list ∷ lists) line merged pass =
      let both = both_true (list_all test list) (list_all (list_all test) lists) pass in
      interleaved_pass test list merged.0 line merged.2 both.0
      (merged_pass test lists merged.0 merged.1 both.1)

  -- Of what several sent to one, what passes a test is what one of them sent, if all that this one
  -- sent passes, and nothing that the others sent.
  pub told_apart : (test : X → Bool) (before after : List (List X)) (own got : List X)
      → AreExchanged (before ++ own ∷ after) (got ∷ []) → list_all test own ≡ true
      → list_all (list_all (λ x. not (test x))) (before ++ after) ≡ true → filter test got ≡ own
  told_apart test before after own got all pass fail =
      let fails : X → Bool = λ x. not (test x) in
      let none = both_true (list_all (list_all fails) before) (list_all (list_all fails) after)
      (sym (list_all-append (list_all fails) before after) ∙ fail) in
      let parts = parted before (own ∷ after) all.1 in
      let others = right_first own parts.3.0 parts.1 parts.0 all.0 parts.3.2
      (interleaved_swap parts.0 parts.1 all.0 parts.4) in
      let none_passes = interleaved_pass fails parts.3.0 parts.0 others.0 others.1
      (merged_pass fails after parts.3.0 parts.3.1 none.1)
      (merged_pass fails before parts.0 parts.2 none.0) in
      ap (filter test) (sym (one_in_order all.2))
      ∙ apart test own others.0 all.0 others.2 pass none_passes

  -- all that is made so passes the test
  all_pass : {N : Type 0} (test : X → Bool) (make : N → X) → ((n : N) → test (make n) ≡ true)
      → (ns : List N) → list_all test (map make ns) ≡ true
  all_pass test make passes [] = refl
  all_pass test make passes (n ∷ ns) = grind (arith, passes n, all_pass test make passes ns)

module _ {N X Y A : Type 0} {is_of_second : X → Bool} {reply : X → Y} where
  -- Two clients ask one server, each about some things, and that is what it got. So it sent to each
  -- the replies to what this one asked, in order.
  pub served : {reader reader' : PartyState (Action X A)}
      {first first' second second' : PartyState (Action Y A)} (ask : Bool → N → X)
      → ((b : Bool) (n : N) → is_of_second (ask b n) ≡ b) → (firsts seconds : List N)
      → (did : HasServed is_of_second reply reader reader' first first' second second')
      → AreExchanged (map (ask true) seconds ∷ map (ask false) firsts ∷ []) (did.requests ∷ [])
      → HasMadeCalls first first' (map (λ n. reply (ask false n)) firsts) []
      × HasMadeCalls second second' (map (λ n. reply (ask true n)) seconds) []
  served {first = first} {first' = first'} {second = second} {second' = second'} ask is firsts
      seconds did asked =
      let is_of_first : X → Bool = λ x. not (is_of_second x) in
      let first_passes = all_pass is_of_first (ask false) (λ n. ap not (is false n)) firsts in
      let second_passes = all_pass is_of_second (ask true) (is true) seconds in
      let second_fails = all_pass (λ x. not (is_of_first x)) (ask true)
      (λ n. ap (λ b. not (not b)) (is true n)) seconds in
      let of_first = told_apart is_of_first (map (ask true) seconds ∷ []) []
      (map (ask false) firsts) did.requests asked first_passes
      (ap (λ b. b && true) second_fails) in
      let of_second = told_apart is_of_second [] (map (ask false) firsts ∷ [])
      (map (ask true) seconds) did.requests asked second_passes
      (ap (λ b. b && true) first_passes) in (
        subst (λ sent. HasMadeCalls first first' sent [])
            (ap (map reply) of_first ∙ map-map reply (ask false) firsts) did.to_first,
        subst (λ sent. HasMadeCalls second second' sent [])
            (ap (map reply) of_second ∙ map-map reply (ask true) seconds) did.to_second,
      )
