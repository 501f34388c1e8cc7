use Rattle.std.proofs.Common.{◌≡◌, ℕ, ◌++◌, List, [], ◌∷◌, append-nil, codes, refl, subst, sym}
use Rattle.std.specs.{Fmt.decimal, Prelude.OnOk, Prelude.string_bytes}
use Rattle.offset_allocator.specs.declared.reports.Refusal.{Refusal}
use Rattle.offset_allocator.specs.declared.reports.Refusal.TheVariants.{Nodes, TooLarge, Space, Fragmented}
use Rattle.offset_allocator.specs.declared.reports.StorageReport.{StorageReport}
use Rattle.offset_pictures.specs.Reasons.{report_text}
use Rattle.offset_pictures.proofs.Texts.{is_ended}
use Rattle.offset_pictures.proofs.reasons.put_report.Goals as goal

other : (why : Refusal) (r : StorageReport) → (why ≡ Nodes → ⊥)
    → codes "; largest free region " ++ decimal r.largest_free_region ++ codes ", of " ++ decimal r.total_free_space ++ codes " free" ≡ report_text why r
other Nodes r h = absurd (h refl)
other TooLarge r h = refl
other Space r h = refl
other Fragmented r h = refl

pub returns-in_default : goal.returns-in_default
returns-in_default c =
    let old : List ℕ = string_bytes c.args.out.now in
    let new : List ℕ = string_bytes c.write.new.self in
    let r : StorageReport = c.args.report in
    subst (λ (t : List ℕ). OnOk c.write.result (new ≡ old ++ t)) (other c.args.why r c.in_default.not-Nodes)
    (is_ended c.write.result [] (codes "; largest free region ") (decimal r.largest_free_region ∷ codes ", of " ∷ decimal r.total_free_space ∷ codes " free" ∷ []) old old new (sym (append-nil old))
    c.write.ensures.bytes)
