-- What the text of a reply tells: whether memory was needed.
use Rattle.std.proofs.Common.{◌≡◌, ℕ, suc, zero, Bool, true, false, cond, eqb, ◌/◌, ◌%◌, List, [], ◌∷◌, take, Some, None}
use Rattle.std.proofs.Common.{refl, sym, ap, ◌∙◌, codes, rules, arith}
use Rattle.std.specs.Fmt.{decimal, digits, digits_onto, digit_glyph}
use Rattle.std.proofs.lemmas.Bool.Decides.{nat_tests}
use Rattle.flume_model.specs.declared.step.Reply.{Reply}
use Rattle.flume_model.specs.declared.step.Reply.TheVariants.{Sent, Full, Closed, NoMemory, Spent}
use Rattle.flume_model.specs.declared.step.Reply.TheVariants.{Pending, Accepted, Waiting, Returned}
use Rattle.flume_model.specs.declared.step.Reply.TheVariants.{NoTicket, Got, Empty, Ended, Done}
use Rattle.flume_model.specs.declared.step.Reply.TheVariants.{Parked, Gone, Drained}
use Rattle.flume_model.specs.declared.step.Reply.TheVariants.{NoEnd, CountFull, Number, Flag}
use Rattle.flume_model.specs.declared.step.Reply.TheVariants.{Capacity as Bound, Unbounded}
use Rattle.flume_model.specs.Replies.{SameReply}
use Rattle.flume_script.specs.ReplyTexts.{reply_text}
use Rattle.flume_history.specs.SameRuns.{IsNoMemory}

-- the text begins as that of `NoMemory` does, and as no other
abbrev Begins : List ℕ → Type 0
Begins text = take 3 text ≡ codes "nom"

-- the text begins with another byte than that of `NoMemory`
abbrev Other : List ℕ → Type 0
Other text = (later : List ℕ) → text ≡ 110 ∷ later → ⊥

-- a digit is another byte
digit_other : (n : ℕ) (later : List ℕ) → Other (digit_glyph false (n % 10) ∷ later)
digit_other n later more e =
    let same : digit_glyph false (n % 10) ≡ 110 = cc in
    grind (arith, nat_tests)

-- one case or the other
either : (b : Bool) (xs ys : List ℕ) → Other xs → Other ys → Other (cond b xs ys)
either true xs ys first second = first
either false xs ys first second = second

-- digits in front of another byte begin with another byte
onto_other : (k n : ℕ) (later : List ℕ) → Other later → Other (digits_onto k 10 false n later)
onto_other zero n later other = other
onto_other (suc k) n later other =
    let digit = digit_other n later in
    either (eqb (n / 10) 0) _ _ digit (onto_other k (n / 10) (digit_glyph false (n % 10) ∷ later) digit)

-- so does a number
decimal_other : (n : ℕ) → Other (decimal n)
unfolding digits
decimal_other n = onto_other 64 n [] (λ later e. let no : ⊥ = cc in no)

-- a text that begins with another byte begins not as that of `NoMemory`
had_memory : (text : List ℕ) → Other text → Begins text → ⊥
had_memory [] other e = let no : ⊥ = cc in no
had_memory (x ∷ text) other e = other text (ap (λ y. y ∷ text) (let same : x ≡ 110 = cc in same))

module _ {A : Type 0} where
  -- the text of `NoMemory` begins so
  begins : (reply : Reply ℕ A) → IsNoMemory reply → Begins (reply_text reply)
  begins (NoMemory None) w = refl
  begins (NoMemory (Some message)) w = refl
  begins _ w = absurd w

  -- and no other does
  only_want : (reply : Reply ℕ A) → Begins (reply_text reply) → IsNoMemory reply
  only_want (NoMemory back) e = tt
  only_want (Sent None) e = absurd (search rules)
  only_want (Sent (Some ticket)) e = absurd (search rules)
  only_want (Full message) e = absurd (search rules)
  only_want (Closed message) e = absurd (search rules)
  only_want (Spent None) e = absurd (search rules)
  only_want (Spent (Some message)) e = absurd (search rules)
  only_want (Pending ticket) e = absurd (search rules)
  only_want Accepted e = absurd (search rules)
  only_want Waiting e = absurd (search rules)
  only_want (Returned message false) e = absurd (search rules)
  only_want (Returned message true) e = absurd (search rules)
  only_want NoTicket e = absurd (search rules)
  only_want (Got message) e = absurd (search rules)
  only_want Empty e = absurd (search rules)
  only_want Ended e = absurd (search rules)
  only_want (Parked ticket) e = absurd (search rules)
  only_want (Gone false None) e = absurd (search rules)
  only_want (Gone true None) e = absurd (search rules)
  only_want (Gone false (Some ticket)) e = absurd (search rules)
  only_want (Gone true (Some ticket)) e = absurd (search rules)
  only_want (Drained list) e = absurd (search rules)
  only_want Done e = absurd (search rules)
  only_want NoEnd e = absurd (search rules)
  only_want CountFull e = absurd (search rules)
  only_want (Number number) e = absurd (had_memory (decimal number) (decimal_other number) e)
  only_want (Flag true) e = absurd (search rules)
  only_want (Flag false) e = absurd (search rules)
  only_want (Bound None) e = absurd (search rules)
  only_want (Bound (Some capacity)) e = absurd (had_memory (decimal capacity) (decimal_other capacity) e)
  only_want Unbounded e = absurd (search rules)

  -- of two replies with one text both are `NoMemory` or neither is
  pub same_want : (reply other : Reply ℕ A) → reply_text reply ≡ reply_text other → IsNoMemory reply → IsNoMemory other
  same_want reply other e w = only_want other (ap (take 3) (sym e) ∙ begins reply w)

  -- the same reply has the same text
  pub same_text : (reply other : Reply ℕ A) → SameReply reply other → reply_text reply ≡ reply_text other
  same_text (Drained list) (Drained other) same = rw same refl
  same_text (Drained list) _ same = ap reply_text same
  same_text _ other same = ap reply_text same
