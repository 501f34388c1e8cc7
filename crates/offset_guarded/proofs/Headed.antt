-- The numbers that a state with tickets begins with, read one by one.
use Rattle.std.proofs.Common.{◌≡◌, ℕ, ◌+◌, List, arith, subst, sym}
use Rattle.offset_guarded.specs.{Numbers.checksum_from, Numbers.number_at, Numbers.numbers, State.IsHeader, StateFaults.IsHeaded}
use Rattle.offset_guarded.specs.declared.restore.Header.{Header}

pub headed : {bytes : List ℕ} {h : Header} → IsHeader bytes h → IsHeaded bytes
headed {bytes} hd = record {
  form = (omega (arith, hd.long), hd.form, hd.version);
  long = omega (arith, hd.long, hd.count);
  realm = omega (arith, hd.realm, hd.fits.0);
  step = omega (arith, hd.step, hd.fits.1);
  sum = subst (λ n. checksum_from 0 (numbers (6 + n) bytes) ≡ number_at bytes (6 + n)) (sym hd.count) hd.sum;
}
