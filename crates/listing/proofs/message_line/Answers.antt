-- `message_line` meets its contract: the line that was put is that of the record's message. Assumes nothing.
use Rattle.std.proofs.Common.{ℕ, ◌^◌, List, sym, ap, ◌∙◌, subst}
use Rattle.frames.specs.Sending.{send_refusal}
use Rattle.refusals.specs.Number.{number_of}
use Rattle.text.specs.Text.{Put}
use Rattle.sheet_record.specs.Record.{kind_at, grade_at}
use Rattle.sheet_record.proofs.Tests.{number-sent, message-is}
use Rattle.sheet_line.specs.Sent.{sent_line}
use Rattle.listing.proofs.Cases.{line-put}
use Rattle.listing.proofs.message_line.Goals as goal

pub returns-clause-line : goal.returns-clause-line
returns-clause-line c =
    let s = c.args.sheet.now in
    let p = c.args.place in
    let k = kind_at s p.at in
    let g = grade_at s p.at in
    let put = c.put_message-line in
    let l = put.result.length in
    let message = message-is s p.at c.message_bytes.result c.message_bytes.ensures in
    let number = number-sent s p.at c.requires.1 ∙ sym (put.ensures.number ∙ ap (λ (m : List ℕ). send_refusal k g 0 m (2 ^ k)) message) in (
      line-put s p.at p.number (number_of put.result.answer) l c.args.out.now put.new.out number
          (λ z. subst (λ (m : List ℕ). Put c.args.out.now 0 (sent_line k g p.number m) l put.new.out) message (put.ensures.sent z)) put.ensures.refused,
      put.ensures.short,
    )
