-- Histories for near-misses, and laws of parties without one of their premises, or with another
-- bound.
use Rattle.std.specs.Prelude.{◌≡◌, ℕ, Bool, true, false, not, List, [], ◌∷◌, ◌++◌, map, Option}
use Rattle.std.specs.Prelude.{Some}
use Rattle.std.specs.Prelude.{None, Err}
use Rattle.std.specs.List.{All, Contains, filter, list_all}
use Rattle.flume_error.specs.Messages.{send_timeout_message}
use Rattle.flume_core.specs.declared.error.SendTimeoutError.{SendTimeoutError}
use Rattle.flume_model.specs.declared.step.Kind.TheVariants.{Plain}
use Rattle.flume_model.specs.declared.step.Step.TheVariants.{TrySend, Send, WithdrawSend, TryRecv}
use Rattle.flume_model.specs.declared.step.Step.TheVariants.{Recv}
use Rattle.flume_model.specs.declared.step.Step.TheVariants.{Withdraw}
use Rattle.flume_model.specs.declared.step.Reply.TheVariants.{Sent, Full, Pending, Returned, Got}
use Rattle.flume_model.specs.declared.step.Reply.TheVariants.{Parked, Gone}
use Rattle.flume_party.specs.Interleavings.{Interleaving}
use Rattle.flume_actions.specs.Actions.{Action, IsWhole}
use Rattle.flume_actions.specs.SendCalls.{IsPolledSend}
use Rattle.flume_laws.specs.Together.{Interleaved, EachAreCalls, AreExchanged, IsExchangedSoFar}
use Rattle.flume_laws.specs.Together.{AreExchangedInPhases, sum_over_all}

-- one message was sent, and nothing else was done
abbrev pub one_sent : List (Action ℕ (Unit {0}))
one_sent = (TrySend 1, Sent None) ∷ []

-- one message was got, and nothing else was done
abbrev pub one_got : List (Action ℕ (Unit {0}))
one_got = (TryRecv, Got 1) ∷ []

-- 1 was sent, 2 came back to its sender, and 3 was blocked
abbrev pub three_tried : List (Action ℕ (Unit {0}))
three_tried = (TrySend 1, Sent None) ∷ (TrySend 2, Full 2) ∷ (Send 3, Pending 1) ∷ []

-- what whole calls sent is what they got, for channels in which so many messages are left
abbrev pub LawWhen : Option ℕ → Type 0
LawWhen left = (capacity : Option ℕ) (parties : List (List (Action ℕ (Unit {0}))))
    (all : List (Action ℕ (Unit {0}))) (sents gots : List (List ℕ)) → Interleaved parties all
    → EachAreCalls parties sents gots → IsWhole capacity all left → AreExchanged sents gots

-- a receiver waited, a message was sent, and the receiver withdrew
abbrev pub waited_for : List (Action ℕ (Unit {0}))
waited_for =
    (Recv Plain, Parked 1) ∷ (TrySend 1, Sent None) ∷ (Withdraw 1, Gone false None) ∷ []

-- after whole calls, what is left is at most the capacity or this number, whichever is greater
abbrev pub LawWithin : ℕ → Type 0
LawWithin number = (capacity : Option ℕ) (n : ℕ) (parties : List (List (Action ℕ (Unit {0}))))
    (all : List (Action ℕ (Unit {0}))) (sents gots : List (List ℕ)) → Interleaved parties all
    → EachAreCalls parties sents gots → IsWhole capacity all (Some n)
    → IsExchangedSoFar capacity number sents gots n

-- this message was sent
abbrev pub sends : ℕ → List (Action ℕ (Unit {0}))
sends message = (TrySend message, Sent None) ∷ []

-- 1 and 2 were got
abbrev pub both_got : List (Action ℕ (Unit {0}))
both_got = (TryRecv, Got 1) ∷ (TryRecv, Got 2) ∷ []

-- 1 was sent, 2 was sent, and both were got
abbrev pub two_exchanged : List (Action ℕ (Unit {0}))
two_exchanged = sends 1 ++ (sends 2 ++ both_got)

-- after whole calls that emptied the channel, the sum over what was sent is that over what was got,
-- if what each party got is changed so
abbrev pub SumLawWith : (List ℕ → List ℕ) → Type 0
SumLawWith change = (capacity : Option ℕ) (parties : List (List (Action ℕ (Unit {0}))))
    (all : List (Action ℕ (Unit {0}))) (sents gots : List (List ℕ)) → Interleaved parties all
    → EachAreCalls parties sents gots → IsWhole capacity all (Some 0)
    → sum_over_all (λ x. x) sents ≡ sum_over_all (λ x. x) (map change gots)

-- after whole calls that emptied the channel, what was sent late comes before what was sent early
abbrev pub LateLaw : Type 0
LateLaw = (capacity : Option ℕ) (parties parties' parties'' : List (List (Action ℕ (Unit {0}))))
    (early late others all : List (Action ℕ (Unit {0})))
    (sents sents' sents'' gots gots' gots'' : List (List ℕ))
    → Interleaved parties early → EachAreCalls parties sents gots
    → Interleaved parties' late → EachAreCalls parties' sents' gots'
    → Interleaved parties'' others → EachAreCalls parties'' sents'' gots''
    → Interleaving (early ++ late) others all → IsWhole capacity all (Some 0)
    → AreExchangedInPhases sents' sents sents'' (gots'' ++ (gots' ++ gots))

-- what one client asked is what passes the test, of what one server got, if that is changed so, and
-- if this holds of the requests of the other clients
abbrev pub ToldApartLawWith : (List ℕ → List ℕ) → (fails : (ℕ → Bool) → List (List ℕ) → Type 0)
    → Type 0
ToldApartLawWith change fails = (test : ℕ → Bool) (before after : List (List ℕ)) (own got : List ℕ)
    → AreExchanged (before ++ own ∷ after) (got ∷ []) → list_all test own ≡ true
    → fails test (before ++ after) → filter test (change got) ≡ own

-- no request of the others passes the test
abbrev pub none_passes : (ℕ → Bool) → List (List ℕ) → Type 0
none_passes test others = list_all (list_all (λ x. not (test x))) others ≡ true

-- 1 was blocked, and then a message came back to its sender
abbrev pub comes_back : ℕ → List (Action ℕ (Unit {0}))
comes_back message = (Send 1, Pending 1) ∷ (WithdrawSend 1, Returned message false) ∷ []

-- if this holds of all actions, a polled send that failed gave back this message in place of its
-- own
abbrev pub ComesBackLawWith : (holds : List (Action ℕ (Unit {0})) → Type 0) → (ℕ → ℕ) → Type 0
ComesBackLawWith holds change = (all made : List (Action ℕ (Unit {0}))) (message : ℕ)
    (error : SendTimeoutError ℕ) → holds all → All (Contains all) made
    → IsPolledSend message made (Err error) → send_timeout_message error ≡ change message
