use Rattle.std.proofs.Common.{rules, ◌≡◌, ap, ◌∙◌, ℕ, ◌≤◌, length, get_or, replicate, arith}
use Rattle.rules.specs.Calls.{Buffers}
use Rattle.runner.specs.Types.{config_of, buffers_of}
use Rattle.runner.proofs.Runs.{ran}
use Rattle.runner.proofs.calls.accepted.Goals as goal

pub returns-clause-call : goal.returns-clause-call
returns-clause-call c =
    let a = c.args in
    let b : Buffers = buffers_of a.buffers.now in
    let bytes : (i : ℕ) → get_or a.image.now i 0 ≤ 255 = λ i. omega (arith, c.type_inv.image i) in
    let zeros : c.fill.new.self ≡ replicate (length c.clustered-counts.new.work) 0 = search rules in
    ran (config_of a.o) a.size.w a.size.h a.image.now bytes b c.requires c.clustered-counts.ensures (zeros ∙ ap (λ n. replicate n 0) c.clustered-counts.auto.work)
