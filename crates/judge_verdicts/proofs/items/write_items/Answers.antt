-- One more line is behind the others.
use Rattle.std.proofs.Common.{◌≡◌, ◌∙◌, ap, ◌∷◌, ◌++◌, get_or, take, sym, rules}
use Rattle.std.proofs.lemmas.List.{append_assoc}
use Rattle.judge_calls.specs.Recordings.{names_of}
use Rattle.judge_verdicts.specs.ItemLines.{item_line, item_lines}
use Rattle.judge_verdicts.proofs.ItemListLemmas.{lines_more}
use Rattle.judge_verdicts.proofs.items.write_items.Goals as goal

pub loop-item-preserved : goal.loop-item-preserved
loop-item-preserved g c =
    let front = c.args.first.now in
    let names = names_of c.args.names.now in
    let items = c.args.items.now in
    let place = c.loop-item.item-index in
    let item = c.item-item.result in
    let before = item_lines names (take place items) in
    let is : item ≡ get_or items place item = c.item-item.is in
    let more = lines_more names items place item (search rules) in
    let line : c.deref.result.now ≡ item_line names item = c.deref.ensures.value ∙ c.in_ok-line.ensures.value in
    c.in_ok-extend_from_slice-3.ensures.items
    ∙ ap (λ text. text ++ c.deref.result.now) c.loop-item.invariant
    ∙ ap (λ text. (front ++ 10 ∷ before) ++ text) line
    ∙ append_assoc front (10 ∷ before) (item_line names item)
    ∙ ap (λ one. front ++ 10 ∷ (before ++ item_line names one)) is
    ∙ ap (λ lines. front ++ 10 ∷ lines) (sym more)
