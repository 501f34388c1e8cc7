use Rattle.offset_allocator.proofs.{Common.◌*◌, Common.◌+◌, Common.ap, Common.arith, Common.drop, Common.length, Common.length-take-le, Saving.StateWords.length-freed, Saving.StateWords.length-words}
use Rattle.offset_allocator.specs.{Saving.ListFaults.word, Saving.StateFaults.free_in}
use Rattle.std.proofs.lemmas.List.{length-drop}
use Rattle.offset_allocator.proofs.states.restore.fault_of.Goals as goal

pub returns-in-Neighbours : goal.returns-in-Neighbours
returns-in-Neighbours c max most ws hd wrong first second fits =
    let w = rw c.in-Neighbours.is at wrong in
    let blocks = length-take-le (2 * word 4 ws) (drop 7 ws) (omega (arith, hd.long, length-drop 7 ws)) in (
      hd,
      (
        c.in-Neighbours.place,
        omega (arith, w.4.0, length-freed (free_in ws) w.0, length-words w.0, ap length w.1.words, blocks, hd.long, fits),
        w,
      ),
    )

pub returns-in-Block : goal.returns-in-Block
returns-in-Block c max most ws hd wrong first second fits =
    let w = rw c.in-Block.is at wrong in
    let blocks = length-take-le (2 * word 4 ws) (drop 7 ws) (omega (arith, hd.long, length-drop 7 ws)) in
    (hd, (c.in-Block.place, omega (arith, blocks, hd.long, fits), w))

pub returns-in-Free : goal.returns-in-Free
returns-in-Free c max most ws hd wrong first second fits =
    let w = rw c.in-Free.is at wrong in
    let free = length-take-le (word 5 ws) (drop (7 + 2 * word 4 ws) ws) (omega (arith, hd.long, length-drop (7 + 2 * word 4 ws) ws)) in
    (hd, (c.in-Free.place, omega (arith, w.3.0, free, hd.long, first, fits), w))

pub returns-in-Unused : goal.returns-in-Unused
returns-in-Unused c max most ws hd wrong first second fits =
    let w = rw c.in-Unused.is at wrong in
    let unused = length-take-le (word 6 ws) (drop (7 + 2 * word 4 ws + word 5 ws) ws) (omega (arith, hd.long, length-drop (7 + 2 * word 4 ws + word 5 ws) ws)) in
    (hd, (c.in-Unused.place, omega (arith, w.2.0, unused, hd.long, first, second, fits), w))
