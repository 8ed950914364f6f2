-- The texts of replies, one reply after another, and of the messages of a drained list.
use Rattle.std.proofs.Common.{◌≡◌, ℕ, ◌+◌, ◌<◌, List, [], ◌∷◌, ◌++◌, length, get_or, take, refl, sym, ap, ◌∙◌}
use Rattle.std.specs.Fmt.{decimal}
use Rattle.std.proofs.lemmas.Grind.{take_at_read}
use Rattle.std.proofs.lemmas.List.{append_assoc, append-nil}
use Rattle.flume_model.specs.declared.step.Reply.{Reply}
use Rattle.flume_script.specs.ReplyTexts.{spaced, reply_text, reply_texts}

module _ {A : Type 0} where
  -- one more reply at the end
  reply_texts_push : (replies : List (Reply ℕ A)) (reply : Reply ℕ A)
      → reply_texts (replies ++ reply ∷ []) ≡ reply_texts replies ++ (reply_text reply ++ 10 ∷ [])
  reply_texts_push [] reply = refl
  reply_texts_push (first ∷ replies) reply =
      ap (λ texts. reply_text first ++ 10 ∷ texts) (reply_texts_push replies reply)
      ∙ sym (append_assoc (reply_text first) (10 ∷ reply_texts replies) (reply_text reply ++ 10 ∷ []))

  -- one more reply of a list
  pub reply_texts_more : (replies : List (Reply ℕ A)) (i : ℕ) (reply : Reply ℕ A) → i < length replies
      → reply_texts (take (i + 1) replies) ≡ reply_texts (take i replies) ++ (reply_text (get_or replies i reply) ++ 10 ∷ [])
  reply_texts_more replies i reply within =
      ap reply_texts (take_at_read replies i reply within).1 ∙ reply_texts_push (take i replies) (get_or replies i reply)

-- one more message at the end
spaced_push : (messages : List ℕ) (message : ℕ) → spaced (messages ++ message ∷ []) ≡ spaced messages ++ 32 ∷ decimal message
spaced_push [] message = ap (λ texts. 32 ∷ texts) (append-nil (decimal message))
spaced_push (first ∷ messages) message =
    ap (λ texts. 32 ∷ (decimal first ++ texts)) (spaced_push messages message)
    ∙ sym (append_assoc (32 ∷ decimal first) (spaced messages) (32 ∷ decimal message))

-- one more message of a list
pub spaced_more : (messages : List ℕ) (i message : ℕ) → i < length messages
    → spaced (take (i + 1) messages) ≡ spaced (take i messages) ++ 32 ∷ decimal (get_or messages i message)
spaced_more messages i message within =
    ap spaced (take_at_read messages i message within).1 ∙ spaced_push (take i messages) (get_or messages i message)
