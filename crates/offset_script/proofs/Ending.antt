-- How a run ends.
use Rattle.offset_script.proofs.Common.{◌≡◌, ℕ, suc, ◌-◌, ◌<◌, ◌⊎◌, inl, inr, false, List, [], ◌∷◌, ◌++◌, length, take, drop, get_or, Option, Some, None, Ok, Err, sym, ap, ◌∙◌, append_assoc, arith}
use Rattle.offset_script.proofs.Common.{take-append-drop, IfSome, flat_map, Appends, cases_lt, append-nil, take_rest, length-append, drop_at, drop_all, meaning_of}
use Rattle.std.proofs.{Math.Seq.split_at, lemmas.Grind.flat_map-append, KnownBytes.Appends-trans}
use Rattle.offset_script.specs.{Running.as_plan, Running.IsParsed, Running.IsScriptOf, Running.HasText, Sending.Pushes, declared.faults.ScriptFault.ScriptFault, declared.scripts.Script.Script}
use Rattle.offset_script.specs.Faults.{as_run_fault}
use Rattle.offset_script.proofs.Meaning.{is_too_long}
use Rattle.offset_script.specs.declared.faults.ScriptFault.TheVariants as scripts

-- a longer beginning
pub more_parts : (text front rest : List ℕ) (n : ℕ) → text ≡ front ++ rest → text ≡ (front ++ take n rest) ++ take (length rest - n) (drop n rest)
more_parts text front rest n h = rw take_rest (h ∙ ap (λ (l : List ℕ). front ++ l) (sym (take-append-drop n rest)) ∙ sym (append_assoc front (take n rest) (drop n rest)))

-- several texts appended, split at the i-th
coalesce_at : {X : Type 0} (text : X → List ℕ) (xs : List X) (i : ℕ) (d : X) → i < length xs
    → flat_map text xs ≡ flat_map text (take i xs) ++ (text (get_or xs i d) ++ flat_map text (drop (suc i) xs))
coalesce_at text xs i d h = ap (flat_map text) (split_at xs i d h) ∙ flat_map-append text (take i xs) (get_or xs i d ∷ drop (suc i) xs)

-- a beginning of the i-th text was sent after those before it
pub piece_failed : {X : Type 0} (text : X → List ℕ) (xs : List X) (i : ℕ) (d : X) (old mid new : Option (List ℕ)) → i < length xs → Appends old mid (flat_map text (take i xs))
    → Pushes false (text (get_or xs i d)) mid new → Pushes false (flat_map text xs) old new
piece_failed text xs i d old mid new h before sends =
    let parted : flat_map text xs ≡ (flat_map text (take i xs) ++ sends.0) ++ (sends.1 ++ flat_map text (drop (suc i) xs)) =
    coalesce_at text xs i d h ∙ rw (sends.2, append_assoc sends.0) (sym (append_assoc (flat_map text (take i xs)) sends.0 _)) in
    (flat_map text (take i xs) ++ sends.0, sends.1 ++ flat_map text (drop (suc i) xs), parted, Appends-trans old mid new _ _ before sends.3)

whole_or_long : (bytes text : List ℕ) (left : Option (List ℕ)) → HasText bytes (Some text) left → ((left ≡ Some []) × (text ≡ bytes) × (length bytes < 1048577))
    ⊎ ((left ≡ Some (drop 1048577 text)) × (meaning_of bytes ≡ Err scripts.TooLong) × (meaning_of text ≡ Err scripts.TooLong))
whole_or_long bytes text None h = absurd h.takes
whole_or_long bytes text (Some rest) h = elim (cases_lt (length bytes) 1048577) [
  | inl lt ↦ inl (ap Some (h.ends lt), h.takes ∙ ap (λ (l : List ℕ). bytes ++ l) (h.ends lt) ∙ append-nil bytes, lt)
  | inr le ↦
      let n = ap length h.takes ∙ length-append bytes rest in
      let left = drop_at bytes rest 1048577 (omega (arith, h.most)) in
      inr (ap Some (sym left ∙ ap (drop 1048577) (sym h.takes)), is_too_long bytes (omega arith), is_too_long text (omega arith))
]

pub script_failed : (bytes : List ℕ) (f : ScriptFault) (from left : Option (List ℕ)) → HasText bytes from left → IsParsed (Err f) (meaning_of bytes)
    → IfSome from (λ text. IsScriptOf (Err (as_run_fault f)) text left)
script_failed bytes f None left h fails = tt
script_failed bytes scripts.Memory (Some text) left h fails = tt
script_failed bytes scripts.TooLong (Some text) left h fails =
    elim (whole_or_long bytes text left h) [ inl w ↦ (rw (drop_all 1048577 text (omega (arith, w.2, ap length w.1))) w.0, ap meaning_of w.1 ∙ fails) | inr l ↦ (l.0, l.2) ]
script_failed bytes f (Some text) left h fails = search (arith, whole_or_long)

pub script_read : (bytes : List ℕ) (script : Script) (from left : Option (List ℕ)) → HasText bytes from left → meaning_of bytes ≡ Ok (as_plan script)
    → IfSome from (λ text. IsScriptOf (Ok script) text left)
script_read bytes script None left h means = tt
script_read bytes script (Some text) left h means = search (arith, whole_or_long)
