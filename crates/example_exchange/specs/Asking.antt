-- What clients ask a server, and what it replies to each.
use Rattle.std.specs.Prelude.{ℕ, ◌/◌, Bool, List, [], map}
use Rattle.flume.specs.Parties.{PartyState}
use Rattle.flume.specs.Actions.{Action}
use Rattle.flume.specs.Callers.{HasMadeCalls}
use Rattle.flume_laws.specs.Forwards.{HasServed}
use Rattle.example_exchange.specs.declared.asking.Question.{Question}

-- a client's question about this number
abbrev pub question_of : Bool → ℕ → Question
question_of of_second number = record { of_second = of_second; number = number }

-- its questions about these numbers
abbrev pub questions_of : Bool → List ℕ → List Question
questions_of of_second numbers = map (question_of of_second) numbers

-- whether the second client asked the question
abbrev pub is_of_second : Question → Bool
is_of_second question = question.of_second

-- half of the number that a question is about
abbrev pub half_of : Question → ℕ
half_of question = question.number / 2

module _ {A : Type 0} where
  -- one party of a client asked about the numbers, and its other one got these replies
  abbrev pub HasAsked : Bool → List ℕ → (asker asker' : PartyState (Action Question A))
      → (reader reader' : PartyState (Action ℕ A)) → List ℕ → Type 0
  HasAsked of_second numbers asker asker' reader reader' replies =
      HasMadeCalls asker asker' (questions_of of_second numbers) []
      × HasMadeCalls reader reader' [] replies

  -- the server got some questions, and sent each client the replies to its own
  abbrev pub HasAnswered : (reader reader' : PartyState (Action Question A))
      → (first first' second second' : PartyState (Action ℕ A)) → Type 0
  HasAnswered = HasServed is_of_second half_of
