-- Where the step of a line ends: at its first hyphen, since no step has one.
use Rattle.std.proofs.Common.{◌≡◌, ℕ, Bool, true, false, List, [], ◌∷◌, ◌++◌, length, eqb, codes}
use Rattle.std.proofs.Common.{refl, sym, subst, ap, ◌∙◌, rules, arith}
use Rattle.std.specs.List.{All, AllByRecursion, slice_split}
use Rattle.std.specs.Str.Parse.{AllDigits}
use Rattle.std.proofs.Math.Seq.{drop-append_seam}
use Rattle.std.proofs.lemmas.Bool.{false≢true}
use Rattle.std.proofs.lemmas.Bool.Decides.{nat_tests}
use Rattle.std.proofs.lemmas.List.{append_cancel_left, append_cancel_right, append_assoc}
use Rattle.std.proofs.lemmas.List.Elements.{All-head, All-drop, All-same, All-append, All-from_recursion}
use Rattle.std.proofs.lemmas.List.Splits.{slice_split_at}
use Rattle.flume_model.specs.declared.step.Kind.TheVariants.{Block, Plain, Stream, Arm}
use Rattle.flume_model.specs.declared.step.Step.{Step}
use Rattle.flume_model.specs.declared.step.Step.TheVariants.{TrySend, Send, PollSend, WithdrawSend, TryRecv, Recv, Poll, Withdraw, Drain}
use Rattle.flume_model.specs.declared.step.Step.TheVariants.{CloneSender, CloneReceiver, DropSender}
use Rattle.flume_model.specs.declared.step.Step.TheVariants.{DropReceiver, Len, IsEmpty, IsFull, SetCapacity}
use Rattle.flume_model.specs.declared.step.Step.TheVariants.{Capacity, SenderCount, ReceiverCount, IsDisconnected}
use Rattle.flume_script.specs.Script.{IsWordWithNumber, IsStepLine}

-- no byte is a hyphen
abbrev pub NoHyphen : List ℕ → Type 0
NoHyphen bytes = All (λ x. eqb x 45 ≡ false) bytes

-- no byte is a hyphen, by recursion, which a tactic computes of a text that is written out
abbrev pub IsPlain : List ℕ → Type 0
IsPlain bytes = AllByRecursion (λ x. eqb x 45 ≡ false) bytes

-- bytes with no hyphen aren't bytes with one
pub has_hyphen : (before later bytes : List ℕ) → before ++ 45 ∷ later ≡ bytes → NoHyphen bytes → ⊥
has_hyphen before later bytes e none =
    let P : ℕ → Type 0 = λ x. eqb x 45 ≡ false in
    let at_hyphen = All-drop P (length before) (before ++ 45 ∷ later) (All-same P (before ++ 45 ∷ later) bytes e none) in
    false≢true (sym (All-head P 45 later (rw drop-append_seam at at_hyphen)))

-- two equal lines are equal up to their first hyphens, and after them
pub same_parts : (before before' later later' : List ℕ) → NoHyphen before → NoHyphen before'
    → before ++ 45 ∷ later ≡ before' ++ 45 ∷ later' → (before ≡ before') × (later ≡ later')
same_parts before before' later later' none none' e =
    let test : ℕ → Bool = λ x. eqb x 45 in
    let split = slice_split_at test before 45 later none refl in
    let split' = slice_split_at test before' 45 later' none' refl in
    let parts : before ∷ slice_split test later ≡ before' ∷ slice_split test later' = sym split ∙ ap (slice_split test) e ∙ split' in
    let same : before ≡ before' = cc in
    let rest = append_cancel_left before' (45 ∷ later) (45 ∷ later') (ap (λ w. w ++ 45 ∷ later) (sym same) ∙ e) in
    (same, cc)

-- a text that is written out has none
plain : (text : List ℕ) → IsPlain text → NoHyphen text
plain text is_plain = All-from_recursion (λ x. eqb x 45 ≡ false) text is_plain

-- digits have none
digits_plain : (digits : List ℕ) → AllDigits 10 digits → IsPlain digits
digits_plain [] all = search rules
digits_plain (c ∷ digits) all = (other (eqb c 45) refl, digits_plain digits all.1)
  where
    other : (b : Bool) → eqb c 45 ≡ b → eqb c 45 ≡ false
    other false e = e
    other true e = absurd (let is : c ≡ 45 = grind (arith, nat_tests) in let digit = rw is at all.0 in omega arith)

-- a call of a word has none
call_plain : (line word : List ℕ) (n : ℕ) → IsPlain word → IsWordWithNumber line word n → NoHyphen line
call_plain line word n is_plain call =
    subst NoHyphen (sym call.line_is)
    (All-append (λ x. eqb x 45 ≡ false) word call.digits (plain word is_plain)
    (plain call.digits (digits_plain call.digits call.numeral.1)))

-- a line that is a text which is written out has none
word_plain : (line text : List ℕ) → IsPlain text → line ≡ text → NoHyphen line
word_plain line text is_plain e = subst NoHyphen (sym e) (plain text is_plain)

-- a step has no hyphen
pub step_plain : (line : List ℕ) (step : Step ℕ) → IsStepLine line step → NoHyphen line
step_plain line (TrySend n) = call_plain line (codes "try_send ") n (search rules)
step_plain line (Send n) = call_plain line (codes "send ") n (search rules)
step_plain line (PollSend n) = call_plain line (codes "poll_send ") n (search rules)
step_plain line (WithdrawSend n) = call_plain line (codes "withdraw_send ") n (search rules)
step_plain line TryRecv = word_plain line (codes "try_recv") (search rules)
step_plain line (Recv Block) = word_plain line (codes "recv block") (search rules)
step_plain line (Recv Plain) = word_plain line (codes "recv plain") (search rules)
step_plain line (Recv Stream) = word_plain line (codes "recv stream") (search rules)
step_plain line (Recv Arm) = word_plain line (codes "recv arm") (search rules)
step_plain line (Poll n) = call_plain line (codes "poll ") n (search rules)
step_plain line (Withdraw n) = call_plain line (codes "withdraw ") n (search rules)
step_plain line (SetCapacity n) = call_plain line (codes "set_capacity ") n (search rules)
step_plain line Drain = word_plain line (codes "drain") (search rules)
step_plain line CloneSender = word_plain line (codes "clone_sender") (search rules)
step_plain line CloneReceiver = word_plain line (codes "clone_receiver") (search rules)
step_plain line DropSender = word_plain line (codes "drop_sender") (search rules)
step_plain line DropReceiver = word_plain line (codes "drop_receiver") (search rules)
step_plain line Len = word_plain line (codes "len") (search rules)
step_plain line IsEmpty = word_plain line (codes "is_empty") (search rules)
step_plain line IsFull = word_plain line (codes "is_full") (search rules)
step_plain line Capacity = word_plain line (codes "capacity") (search rules)
step_plain line SenderCount = word_plain line (codes "sender_count") (search rules)
step_plain line ReceiverCount = word_plain line (codes "receiver_count") (search rules)
step_plain line IsDisconnected = word_plain line (codes "is_disconnected") (search rules)

-- an arrow between a text and what was said, cut at its hyphen
pub arrow : (text said : List ℕ) → text ++ codes " -> " ++ said ≡ (text ++ codes " ") ++ 45 ∷ (codes "> " ++ said)
arrow text said = append_assoc text (codes " -> ") said ∙ sym (append_assoc text (codes " ") (45 ∷ (codes "> " ++ said)))

-- a space is no hyphen
space : NoHyphen (codes " ")
space = plain (codes " ") (search rules)

-- if a line is a text with no hyphen, an arrow and what was said, the arrow's hyphen is the first
-- of the line
pub at_arrow : (line before after : List ℕ) → line ≡ before ++ 45 ∷ after → NoHyphen before
    → (text said : List ℕ) → NoHyphen text → line ≡ text ++ codes " -> " ++ said
    → (before ≡ text ++ codes " ") × (after ≡ codes "> " ++ said)
at_arrow line before after line_is first text said none is =
    same_parts before (text ++ codes " ") after (codes "> " ++ said) first (All-append (λ x. eqb x 45 ≡ false) text (codes " ") none space)
    (sym line_is ∙ is ∙ arrow text said)

-- two texts with no hyphen before the arrow of one line are the same
pub one_arrow : (text other said recorded : List ℕ) → NoHyphen text → NoHyphen other
    → text ++ codes " -> " ++ said ≡ other ++ codes " -> " ++ recorded → text ≡ other
one_arrow text other said recorded none none' e =
    append_cancel_right text other (codes " ")
    (at_arrow (text ++ codes " -> " ++ said) (text ++ codes " ") (codes "> " ++ said) (arrow text said)
    (All-append (λ x. eqb x 45 ≡ false) text (codes " ") none space) other recorded none' e).0
