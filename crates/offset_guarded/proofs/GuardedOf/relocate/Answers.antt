use Rattle.std.proofs.Common.{◌≡◌, ◌∙◌, ◌%◌, ◌+◌, ◌≤◌, ℕ, Option, Some, None, IfSome, ap, ap₂, arith, option_map, refl, subst, subst₂, sym, rules}
use Rattle.std.proofs.Math.Nat.{dvd_of_mod-eq-zero, dvd_trans}
use Rattle.std.specs.Int.{◌∣◌, IsGcd}
use Rattle.std.proofs.lemmas.Nat.Gcd.{same_from_IsGcd}
use Rattle.std.specs.Prelude.{unwrap_or}
use Rattle.offset_allocator.specs.Moving.Relocating.{RelocatesAligned, offset_of}
use Rattle.offset_allocator.specs.Ranges.{Range, range_of, size_of}
use Rattle.offset_allocator.specs.View.{View}
use Rattle.offset_guarded.specs.Answers.{Requests}
use Rattle.offset_guarded.specs.Guard.{Guard, Ticket, handle_in}
use Rattle.offset_guarded.specs.Step.{IsJoined}
use Rattle.offset_guarded.proofs.{Divisors.divisor_of_some, Divisors.joined_stays}
use Rattle.offset_guarded.proofs.GuardedOf.relocate.Goals as goal

pub second-requires-clause-alignment : goal.second-requires-clause-alignment
second-requires-clause-alignment g c = divisor_of_some c.common_divisor.result c.step_number-step.result c.common_divisor.ensures.common.1 (omega (arith, c.if-step-eq0.false))

-- a result keeps the step where it is none, or its alignment divides the step
stays : (s d t : ℕ) → s ≤ 4294967295 → d ∣ s → (r : Option Ticket) → IfSome r (λ _. IsJoined s d t) → (r ≡ None → t ≡ s) → t ≡ s
stays s d t few divides None joined none = none refl
stays s d t few divides (Some x) joined none = joined_stays s d t few divides joined

-- where the range of a name begins, which has another word, and so has the space
offset_by : (x y : ℕ) (v w : View) (o : ℕ) → x ≡ y → v ≡ w → Some o ≡ option_map (λ (r : Range). r.offset) (range_of x v) → offset_of y w ≡ o
offset_by x y v w o e d f =
    ap₂ (λ (x : ℕ) (v : View). offset_of x v) (sym e) (sym d) ∙ ap (λ (q : Option ℕ). unwrap_or q 0) (sym f)

-- where a range begins at a multiple, it begins at one of each divisor
divides : (o s d : ℕ) (r : Option Ticket) → IsGcd o s d → IfSome r (λ t. t.offset % d ≡ 0) → IfSome r (λ t. (a : ℕ) → a ∣ s → a ∣ o → a ∣ t.offset)
divides o s d None is e = tt
divides o s d (Some t) is e = λ a p q. dvd_trans a (is.2 a q p) (dvd_of_mod-eq-zero d e)

pub returns : goal.returns
returns g c =
    let now = c.step_number-step.ensures in
    let o = offset_by c.in_ok-handle.handle.name c.args.ticket.name c.self.inside.space c.args.self.now.space c.in_ok-offset.offset c.in_ok-handle.ensures.range.0 (ap (λ (k : Guard). k.space) c.self.view_is) c.in_ok-offset.ensures in
    let own : IsGcd (offset_of c.args.ticket.name c.args.self.now.space) c.args.self.now.step c.common_divisor.result =
    subst₂ (λ (n s : ℕ). IsGcd n s c.common_divisor.result) (sym o) now c.common_divisor.ensures.common in
    record {
      second = record {
        live = search rules;
        request = subst (λ (x : ℕ). Requests (size_of x c.args.self.now.space) c.args.self.now c.second.new.self c.second.result) c.in_ok-handle.ensures.range.0 c.second.ensures.request;
        before =
            subst (λ (x : ℕ). IfSome c.second.result (λ t. t.offset + size_of x c.args.self.now.space ≤ offset_of x c.args.self.now.space)) c.in_ok-handle.ensures.range.0 c.second.ensures.before;
        accesses_max = c.second.ensures.accesses_max;
      };
      aligned = divides (offset_of c.args.ticket.name c.args.self.now.space) c.args.self.now.step c.common_divisor.result c.second.result own c.second.ensures.aligns.aligned;
      none = λ e. absurd (omega (arith, e, now, c.if-step-eq0.false));
      step = λ live left some align is.
          subst (λ (d : ℕ). RelocatesAligned c.args.ticket.name d c.args.self.now.space c.second.new.self.space (option_map handle_in c.second.result))
          (same_from_IsGcd (offset_of c.args.ticket.name c.args.self.now.space) c.args.self.now.step c.common_divisor.result align own is)
          (subst (λ (x : ℕ). RelocatesAligned x c.common_divisor.result c.args.self.now.space c.second.new.self.space (option_map handle_in c.second.result)) c.in_ok-handle.ensures.range.0 (c.second.ensures.step left));
      same_step = stays c.args.self.now.step c.common_divisor.result c.second.new.self.step (omega (arith, now, c.step_number-step.type_inv)) (subst (λ (n : ℕ). c.common_divisor.result ∣ n) now c.common_divisor.ensures.common.1)
          c.second.result c.second.ensures.aligns.joined (λ e. ap (λ (k : Guard). k.step) (c.second.ensures.request.serials e));
    }
