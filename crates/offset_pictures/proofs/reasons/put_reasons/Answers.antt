use Rattle.std.proofs.Common.{◌≡◌, ℕ, ◌+◌, ◌<◌, ◌≤◌, ◌++◌, ◌∙◌, List, [], Option, Some, codes, drop, get_or, length, ne_eqb, sym, ap, ap₂, subst, arith}
use Rattle.std.specs.Prelude.{MatchOption, OnOk, flat_map, string_bytes}
use Rattle.offset_allocator.specs.declared.reports.Refusal.TheVariants.{Nodes}
use Rattle.offset_allocator.specs.declared.reports.StorageReport.{StorageReport}
use Rattle.offset_pictures.specs.declared.axes.Axis.{Axis}
use Rattle.offset_pictures.specs.declared.reasons.Spot.{Spot}
use Rattle.offset_pictures.specs.declared.refusing.Asked.TheVariants.{Alloc}
use Rattle.offset_pictures.specs.declared.refusing.Reason.TheVariants.{Request}
use Rattle.offset_pictures.specs.declared.refusing.Refused.{Refused}
use Rattle.offset_pictures.specs.Reasons.{one_spot, pixel_of, spot_text, spots_of}
use Rattle.offset_pictures.proofs.Spotted.{call_begins, call_is_first, call_joins, last_spot, no_open, no_spot, opened, text}
use Rattle.offset_pictures.proofs.Texts.{goes_on, is_begun, is_ended}
use Rattle.offset_pictures.proofs.reasons.put_reasons.Goals as goal
use Rattle.offset_pictures.proofs.reasons.put_reasons.Goals.{in-Some, in_default, in_default-via-in-Some+else-spot-left, in_default-via-in_default}
use Rattle.offset_pictures.proofs.reasons.put_reasons.Goals.{in-Some-spot+in_ok-put-in_default, in_default-spot, in-Some-spot-2+in_ok-put, in_default-spot-2}

few_open : (o : Option Spot) (s : Spot) (i : ℕ) → o ≡ Some s → MatchOption o (Unit {0}) (λ s. s.more ≤ i) → s.more ≤ i
few_open o s i e h = subst (λ o. MatchOption o (Unit {0}) (λ s. s.more ≤ i)) e h

pub loop-call-preserved : goal.loop-call-preserved
loop-call-preserved c =
    let calls : Axis = c.args.plot.now.calls in
    let refused : List Refused = c.args.refused.now in
    let reports : List StorageReport = c.args.reports.now in
    let y : ℕ = c.bottom-y.result in
    let i : ℕ = c.loop-call.call-index in
    let left : ℕ = c.pixel_of-left.result in
    let less : i < length refused = omega arith in
    let d : Refused = record { call = 0; asked = Alloc 0; why = Request Nodes } in
    let at : left ≡ pixel_of calls (get_or refused i d).call = c.pixel_of-left.ensures in
    let out : List ℕ = string_bytes c.loop-call.out in
    let rest : List Spot = spots_of calls (drop (i + 1) refused) in
    elim c.match-spot.branch [
      | in-Some w ↦
          let s : Spot = w.in-Some.spot in
          let few : s.more ≤ i = few_open c.loop-call.spot s i w.in-Some.is c.loop-call.invariant.few in
          let next : Spot = w.add.new.self in
          let more : next.more ≡ s.more + 1 = omega (arith, w.add.ensures.more) in
          record {
            few = subst (λ (o : Option Spot). MatchOption o (Unit {0}) (λ s. s.more ≤ i + 1)) (sym w.spot-is) (omega (arith, more));
            text = ap₂ (λ (o : List ℕ) (x : Option Spot). o ++ text calls y reports refused (opened x rest)) (ap string_bytes w.out-is) w.spot-is
                ∙ call_joins calls y reports refused i left d c.loop-call.spot s next out _ less at w.if-spot-left.true w.add.ensures.left w.add.ensures.first more w.in-Some.is
                c.loop-call.invariant.text;
          }
      | in_default w ↦
          record {
            few = subst (λ (o : Option Spot). MatchOption o (Unit {0}) (λ s. s.more ≤ i + 1)) (sym w.spot-is) (subst (λ (s : Spot). s.more ≤ i + 1) (sym w.new.ensures) (omega arith));
            text =
                ap₂ (λ (o : List ℕ) (x : Option Spot). o ++ text calls y reports refused (opened x rest)) (ap string_bytes w.out-is) (w.spot-is ∙ ap Some w.new.ensures)
                ∙ elim w.match-spot-2.branch [
                  | in-Some-spot+in_ok-put-in_default v ↦
                      let s : Spot = v.in-Some-spot.spot in
                      elim w.in_default.branch [
                        | in_default-via-in-Some+else-spot-left u ↦
                            let same : s ≡ u.in-Some.spot = let e = u.spot-is in let f = v.in-Some-spot.is in cc in
                            let other = ne_eqb s.left left (λ e. u.if-spot-left.false (ap (λ (x : Spot). x.left) (sym same) ∙ e)) in
                            call_begins calls y reports refused i left d c.loop-call.spot s out _ _ less at other (ap string_bytes v.out-is ∙ v.in_ok-put-in_default.ensures)
                            (u.in-Some.is ∙ sym u.spot-is ∙ v.in-Some-spot.is) c.loop-call.invariant.text
                        | in_default-via-in_default u ↦ absurd (u.in_default.not-Some s (sym u.spot-is ∙ v.in-Some-spot.is))
                      ]
                  | in_default-spot v ↦
                      elim w.in_default.branch [
                        | in_default-via-in-Some+else-spot-left u ↦ absurd (v.in_default-spot.not-Some u.in-Some.spot u.spot-is)
                        | in_default-via-in_default u ↦
                            ap (λ (o : List ℕ). o ++ text calls y reports refused (opened (Some (one_spot left (get_or refused i d))) rest)) (ap string_bytes v.out-is)
                            ∙ call_is_first calls y reports refused i left d c.loop-call.spot out _ less at (no_open c.loop-call.spot u.in_default.not-Some) c.loop-call.invariant.text
                      ]
                ];
          }
    ]

pub returns : goal.returns
returns c =
    let calls : Axis = c.args.plot.now.calls in
    let refused : List Refused = c.args.refused.now in
    let reports : List StorageReport = c.args.reports.now in
    let y : ℕ = c.bottom-y.result in
    let i : ℕ = c.loop-call.call-index in
    let old : List ℕ = string_bytes c.args.out.now in
    let out : List ℕ = string_bytes c.loop-call.out in
    let begin : List ℕ = codes "<g class='why'>\n" in
    let begun : string_bytes c.writeln.new.self ≡ old ++ begin = is_begun begin [] old _ c.in_ok-writeln.ensures.bytes in
    let spots : List ℕ = flat_map (spot_text y reports) (spots_of calls refused) in
    let every : length refused ≤ i = omega arith in
    let drawn : string_bytes c.match-spot-3.out ≡ string_bytes c.writeln.new.self ++ spots =
    elim c.match-spot-3.branch [
      | in-Some-spot-2+in_ok-put w ↦ last_spot calls y reports refused i c.loop-call.spot w.in-Some-spot-2.spot out _ _ every (ap string_bytes w.out-is ∙ w.in_ok-put.ensures) w.in-Some-spot-2.is
          c.loop-call.invariant.text
      | in_default-spot-2 w ↦ ap string_bytes w.out-is ∙ no_spot calls y reports refused i c.loop-call.spot out _ every (no_open c.loop-call.spot w.in_default-spot-2.not-Some)
          c.loop-call.invariant.text
    ] in
    let all : string_bytes c.match-spot-3.out ≡ old ++ (begin ++ spots) = goes_on begin spots [] old _ _ begun drawn in
    subst (λ (h : ℕ). OnOk c.writeln-2.result (string_bytes c.writeln-2.new.self ≡ old ++ (begin ++ flat_map (spot_text h reports) (spots_of calls refused) ++ codes "</g>\n")))
    c.bottom-y.ensures.is
    (is_ended c.writeln-2.result (begin ++ spots) (codes "</g>\n") [] old _ (string_bytes c.writeln-2.new.self) all c.writeln-2.ensures.bytes)
