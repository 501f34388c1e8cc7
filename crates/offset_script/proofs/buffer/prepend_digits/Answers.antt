use Rattle.std.proofs.Common.{◌++◌, length, drop, set, arith, append_assoc, length-append, length-drop, length-set, ap}
use Rattle.std.proofs.lemmas.List.{drop-set}
use Rattle.std.specs.Fmt.{decimal}
use Rattle.std.proofs.lemmas.Fmt.{decimal_digit, decimal_step, decimal_nonempty, length-decimal-le}
use Rattle.offset_script.proofs.buffer.prepend_digits.Goals as goal

pub loop-rest-init : goal.loop-rest-init
loop-rest-init g c =
    let most = length-decimal-le 20 c.args.n (omega arith) (omega arith) (omega arith) in
    (c.told-room, omega arith, omega arith, omega (arith, most), ap (λ i. decimal c.args.n ++ drop i c.args.room.now) (omega arith))

pub overflow_sub-at-in-loop-rest : goal.overflow_sub-at-in-loop-rest
overflow_sub-at-in-loop-rest g c = search (arith, length, decimal_step, length-append, decimal, decimal_nonempty)

pub loop-rest-preserved : goal.loop-rest-preserved
loop-rest-preserved g c = search (arith, decimal_step, length, length-append, decimal, decimal_nonempty, length-set, drop-set, append_assoc)

pub returns-clause-text : goal.returns-clause-text
returns-clause-text g c = search (arith, set, length-drop, length-set, drop, drop-set, decimal_digit)
