-- Which texts are lawful: that of the channel's own reply, and that of `NoMemory` if memory may be
-- needed.
use Rattle.std.proofs.Common.{◌≡◌, ℕ, List, ◌++◌, ◌⊎◌, inl, inr, Some, None, sym, ap, ◌∙◌, codes}
use Rattle.flume_model.specs.declared.step.Step.{Step}
use Rattle.flume_model.specs.declared.step.Reply.{Reply}
use Rattle.flume_model.specs.declared.step.Reply.TheVariants.{NoMemory}
use Rattle.flume_model.specs.Log.{Log, Opening}
use Rattle.flume_model.specs.Channel.{channel}
use Rattle.flume_model.specs.Replies.{IsReply}
use Rattle.flume_state.specs.State.{State}
use Rattle.flume_core.specs.Represents.{Represents}
use Rattle.flume_core.specs.NoMemoryRule.{NoMemoryIsLawful}
use Rattle.flume_script.specs.ReplyTexts.{reply_text}
use Rattle.flume_history.specs.SameRuns.{IsNoMemory}
use Rattle.flume_history.specs.HistoryText.{IsLawfulText, Shows}
use Rattle.flume_history.specs.HandedIn.{handed_in}
use Rattle.flume_history.proofs.OneBlockedLemmas.{one_blocked}
use Rattle.flume_history.proofs.OneReplyLemmas.{one_reply}
use Rattle.flume_history.proofs.OneRunLemmas.{want_or_not}
use Rattle.flume_history.proofs.ReplyWantLemmas.{same_want, same_text}
use Rattle.flume_history.proofs.NoMemoryRuleLemmas.{want_allowed, want_only}

module _ {A S : Type 0} {o : Opening} {log : Log ℕ A} {s : State ℕ S} (h : Represents o log s) (step : Step ℕ) (own : Reply ℕ A)
    (lawful : IsReply (channel o log) step own) (had_memory : IsNoMemory own → ⊥) where
  -- a lawful reply that isn't `NoMemory` has the text of the channel's own
  own_text : (reply : Reply ℕ A) → IsReply (channel o log) step reply → (IsNoMemory reply → ⊥) → reply_text reply ≡ reply_text own
  own_text reply is none =
      same_text reply own (one_reply (channel o log) (one_blocked o log h.run) step reply own is lawful none had_memory)

  -- a lawful `NoMemory` hands in what the step does
  want_text : (reply : Reply ℕ A) → IsReply (channel o log) step reply → IsNoMemory reply
      → NoMemoryIsLawful s step × (reply_text reply ≡ reply_text {A = A} (NoMemory (handed_in step)))
  want_text (NoMemory back) is w =
      let only = want_only h step back is in
      (only.0, ap (λ back. reply_text {A = A} (NoMemory back)) only.1)
  want_text _ is w = absurd w

  -- if memory may not be needed, each lawful text is the channel's own
  only_own : (NoMemoryIsLawful s step → ⊥) → (text : List ℕ) → IsLawfulText A (channel o log) step text → text ≡ reply_text own
  only_own never text is = by_want (want_or_not is.0)
    where
      by_want : IsNoMemory is.0 ⊎ (IsNoMemory is.0 → ⊥) → text ≡ reply_text own
      by_want (inl w) = absurd (never (want_text is.0 is.1 w).0)
      by_want (inr none) = is.2 ∙ own_text is.0 is.1 none

  -- if it may be, there is that of `NoMemory` too
  own_or_want : (want text : List ℕ) → want ≡ reply_text {A = A} (NoMemory (handed_in step))
      → IsLawfulText A (channel o log) step text → (text ≡ reply_text own) ⊎ (Some want ≡ Some text)
  own_or_want want text want_is is = by_want (want_or_not is.0)
    where
      by_want : IsNoMemory is.0 ⊎ (IsNoMemory is.0 → ⊥) → (text ≡ reply_text own) ⊎ (Some want ≡ Some text)
      by_want (inl w) = inr (ap Some (want_is ∙ sym (want_text is.0 is.1 w).1 ∙ sym is.2))
      by_want (inr none) = inl (is.2 ∙ own_text is.0 is.1 none)

  -- so that text alone is shown
  pub shows_own : (expected said : List ℕ) → expected ≡ reply_text own → (NoMemoryIsLawful s step → ⊥) → (said ≡ expected → ⊥)
      → Shows A (channel o log) step expected × (IsLawfulText A (channel o log) step said → ⊥)
  shows_own expected said expected_is never unlike = (
    record {
      own = own;
      other = None;
      expected_is = expected_is;
      is_lawful = lawful;
      had_memory = had_memory;
      is_another = λ e. let no : ⊥ = cc in no;
      are_all = λ text. (λ (is : IsLawfulText A (channel o log) step text). inl (only_own never text is), back text);
    },
    λ is. unlike (only_own never said is ∙ sym expected_is),
  )
    where
      back : (text : List ℕ) → (text ≡ reply_text own) ⊎ (None ≡ Some text) → IsLawfulText A (channel o log) step text
      back text (inl e) = (own, lawful, e)
      back text (inr e) = absurd (let no : ⊥ = cc in no)

  -- or the two
  pub shows_both : (want expected said : List ℕ) → want ≡ reply_text {A = A} (NoMemory (handed_in step))
      → expected ≡ reply_text own ++ codes " or " ++ want → NoMemoryIsLawful s step → (said ≡ reply_text own → ⊥) → (want ≡ said → ⊥)
      → Shows A (channel o log) step expected × (IsLawfulText A (channel o log) step said → ⊥)
  shows_both want expected said want_is expected_is may unlike unwanted = (
    record {
      own = own;
      other = Some want;
      expected_is = expected_is;
      is_lawful = lawful;
      had_memory = had_memory;
      is_another = λ e.
          had_memory (same_want {A = A} (NoMemory (handed_in step)) own (let same : want ≡ reply_text own = cc in sym want_is ∙ same) tt);
      are_all = λ text. (λ (is : IsLawfulText A (channel o log) step text). own_or_want want text want_is is, back text);
    },
    λ is. neither (own_or_want want said want_is is),
  )
    where
      back : (text : List ℕ) → (text ≡ reply_text own) ⊎ (Some want ≡ Some text) → IsLawfulText A (channel o log) step text
      back text (inl e) = (own, lawful, e)
      back text (inr e) = (
        NoMemory (handed_in step),
        want_allowed h step may,
        (let same : text ≡ want = cc in same) ∙ want_is,
      )

      neither : (said ≡ reply_text own) ⊎ (Some want ≡ Some said) → ⊥
      neither (inl e) = unlike e
      neither (inr e) = unwanted (let same : want ≡ said = cc in same)
