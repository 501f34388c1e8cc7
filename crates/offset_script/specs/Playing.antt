-- What `play` returns.
use Rattle.std.specs.Prelude.{◌≡◌, ℕ, List}
use Rattle.offset_script.specs.declared.scripts.Command.{Command}
use Rattle.offset_script.specs.Machine.{Answer, start}
use Rattle.offset_script.specs.Machine as machine
use Rattle.offset_script.specs.Steps.{Takes, AreStepsFromFresh}
use Rattle.offset_script.specs.Histories.{HasFreshRestarts, HasCommutingReleases, HasTracelessNests}

-- these are the answers to commands, from one free block of size units
pub record AreAnswers (size limit : ℕ) (commands : List Command) (found : List Answer) : Type 0 where
  -- they are those of the plain machine
  pub answers : found ≡ machine.answers commands (start size limit)
  -- they are those of the allocator's named steps on a fresh space, one after the other
  pub steps : AreStepsFromFresh Takes size limit commands found
  -- wherever no grant is live, the answers from there on are those of a fresh machine over as many units, with the
  -- number of the grants so far added to its grant numbers
  pub fresh : HasFreshRestarts size limit commands found
  -- after releases in a row, the next answer, without the offset of a grant, is that of a space where each run of free
  -- and released neighbours is one free block: so the order of the releases does not matter
  pub releases : HasCommutingReleases size limit commands found
  -- after a nest, whose grants are released in reverse order, the answers are those without the nest, except that its
  -- grants have taken numbers
  pub nests : HasTracelessNests size limit commands found
