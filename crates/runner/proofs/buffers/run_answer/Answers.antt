use Rattle.std.proofs.Common.{rules, ◌≡◌, ◌∙◌, false}
use Rattle.refusal.specs.Refusal.{answer_of, number_of}
use Rattle.refusal.proofs.Laws.{refused_number}
use Rattle.rules.specs.Refusals.{bad_shift, run_answer, first_failed, size_checks}
use Rattle.rules.proofs.Accepted.{sized}
use Rattle.runner.proofs.buffers.run_answer.Goals as goal

pub returns-in_err-pixels-clause-answer : goal.returns-in_err-pixels-clause-answer
unfolding run_answer
returns-in_err-pixels-clause-answer c =
    let e : number_of c.in_err-pixels.field-0.0 ≡ first_failed (size_checks c.args.size.w c.args.size.h) = search rules in
    let f : answer_of c.from_residual.result ≡ number_of c.in_err-pixels.field-0.0 = search rules in
    let g : bad_shift c.args.o.is_same_color_a ≡ false = search rules in
    f ∙ rw (g, sized, ← e, refused_number c.in_err-pixels.field-0.0)
