use Rattle.std.proofs.Common.{◌++◌, List, [], ℕ}
use Rattle.std.specs.Prelude.{string_bytes}
use Rattle.offset_pictures.specs.declared.figures.Figures.{Figures}
use Rattle.offset_pictures.specs.Legend.{size_text, use_text, worst_text, end_text, colours_text, ages_key}
use Rattle.offset_pictures.proofs.Texts.{goes_on, is_ended}
use Rattle.offset_pictures.proofs.legend.put_legend.Goals as goal

pub returns : goal.returns
returns c =
    let f : Figures = c.args.figures.now in
    let old : List ℕ = string_bytes c.args.out.now in
    let e₁ = goes_on (size_text f c.args.max_allocs) (use_text f) [] old _ _ c.in_ok-put_size.ensures c.in_ok-put_use.ensures in
    let e₂ = goes_on (size_text f c.args.max_allocs ++ use_text f) (worst_text f) [] old _ _ e₁ c.in_ok-put_worst.ensures in
    let e₃ = goes_on (size_text f c.args.max_allocs ++ use_text f ++ worst_text f) ages_key [] old _ _ e₂ c.in_ok-put_ages.ensures in
    let e₄ = goes_on (size_text f c.args.max_allocs ++ use_text f ++ worst_text f ++ ages_key) (end_text f c.args.end) [] old _ _ e₃ c.in_ok-put_end.ensures in
    is_ended c.put_colours.result (size_text f c.args.max_allocs ++ use_text f ++ worst_text f ++ ages_key ++ end_text f c.args.end) (colours_text f) [] old _ _ e₄ c.put_colours.ensures
