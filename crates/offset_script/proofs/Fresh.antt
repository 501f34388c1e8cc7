-- A state without live blocks continues as a fresh one, and a fresh one that is extended as a larger one.
use Rattle.offset_script.proofs.Common.{◌≡◌, ℕ, zero, suc, ◌+◌, ◌-◌, ◌*◌, ◌<◌, ◌≤◌, false, List, [], ◌∷◌, length, IsTrue, nat_lt, refl, sym, ap, ap₂, subst, subst₂, le-ltb, ◌∙◌, inl, inr, arith}
use Rattle.offset_script.proofs.Common.{true≢false, AllByRecursion, max_size, Tag, Live, Free, Block, block, is_free, total, State, Answer, start, step, answers, after, Command, renumber}
use Rattle.offset_script.proofs.{Common.raise_number, Common.number_without, Common.answers_renumbered, Common.HasNoLive, Nests.number_without_none, Nests.number_without_past}
use Rattle.offset_script.proofs.{Nests.number_without_future, Pairs.rights, Pairs.Frees, Pairs.Pair, Pairs.pair, Pairs.AreAgreed, Members.IsIn, Members.map_same, Alike.IsAlike, Alike.IsMatched}
use Rattle.offset_script.proofs.{Alike.alike_answers, Lists.AreApart, Lists.count, Lists.hit_self, Well.IsWell, Well.well_start, Well.well_after}
use Rattle.offset_script.specs.declared.scripts.Command.TheVariants as command
use Rattle.offset_script.specs.Machine as machine

-- one free block
abbrev pub IsOneFree : List Block → Type 0
IsOneFree bs = (n x : ℕ) × (bs ≡ block n (Free x) ∷ [])

free_tag : (t : Tag) → IsTrue (is_free t) → (x : ℕ) × (t ≡ Free x)
free_tag (Free x) h = (x, refl)
free_tag (Live k) h = absurd (grind (arith, h))

pub one_free : (bs : List Block) → 1 ≤ length bs → AreApart bs → AllByRecursion (λ b. IsTrue (is_free b.tag)) bs → IsOneFree bs
one_free [] some a f = absurd (omega arith)
one_free (b ∷ []) some a f = let t = free_tag b.tag f.0 in (b.size, t.0, ap (λ t. block b.size t ∷ []) t.1)
one_free (b ∷ c ∷ bs) some a f = search (arith, free_tag, true≢false)

pub alike_fresh : (s : State) (n x g : ℕ) → g ≡ s.grants → s.blocks ≡ block n (Free x) ∷ [] → x < 2 * (s.calls + 1) → IsAlike (number_without 0 g) g s (start (total s.blocks) s.limit)
alike_fresh s n x g same e h =
    let is_right : block (total s.blocks) (Free 0) ∷ [] ≡ rights (pair n (Frees x 0) ∷ []) = ap (λ m. block m (Free 0) ∷ []) (ap total e ∙ omega arith) in
    let matched : (p : Pair) → IsIn p (pair n (Frees x 0) ∷ []) → IsMatched (number_without 0 g) (2 * (s.calls + 1)) 2 p.kind = λ p i.
    elim i [ inl is ↦ subst (λ (z : Pair). IsMatched (number_without 0 g) (2 * (s.calls + 1)) 2 z.kind) (sym is) (h, omega arith) | inr none ↦ absurd none ] in
    let past = λ (k : ℕ) (l : k ≤ s.grants). number_without_past 0 g k (omega arith) in
    let future = λ (k : ℕ) (l : s.grants < k). number_without_future 0 g k (omega arith) in
    record { limit = refl; pairs = pair n (Frees x 0) ∷ []; left_blocks = e; right_blocks = is_right; matched = matched; agree = only; grants = omega arith; past = past; future = future }
  where
    only : (a b : Pair) → IsIn a (pair n (Frees x 0) ∷ []) → IsIn b (pair n (Frees x 0) ∷ []) → AreAgreed a b
    only a b (inl i) (inl j) = subst₂ AreAgreed (sym i) (sym j) (λ same. le-ltb x x (omega arith))
    only a b (inl i) (inr j) = absurd j
    only a b (inr i) j = absurd i

pub fresh_law : (size limit : ℕ) → 2 ≤ limit → (cs : List Command) → let s = after cs (start size limit) in
    HasNoLive s → (next : List Command) → answers next s ≡ answers_renumbered (start (total s.blocks) s.limit) s next
fresh_law size limit h cs none =
    let s = after cs (start size limit) in
    let w : IsWell s = well_after cs _ (well_start size limit h) in
    let f : IsOneFree s.blocks = one_free s.blocks w.some w.apart none in
    λ more. alike_answers _ _ more s (start (total s.blocks) s.limit)
    (alike_fresh s f.0 f.1 (s.grants - 0) (omega arith) f.2 (w.old (Free f.1) (let c = ap (count (Free f.1)) f.2 in let h = hit_self (Free f.1) in omega arith)))

-- a fresh space that is extended
pub raise_none : (a : Answer) → raise_number 0 a ≡ a
raise_none (machine.Grant k offset) = ap (λ n. machine.Grant n offset) (let e : k + 0 ≡ k = omega arith in e)
raise_none other = refl

-- numbers that stay leave commands as they are
pub renumber_same : (r : ℕ → ℕ) → ((k : ℕ) → r k ≡ k) → (c : Command) → renumber r c ≡ c
renumber_same r e (command.Free k) = ap command.Free (e k)
renumber_same r e (command.Size k) = ap command.Size (e k)
renumber_same r e other = refl

-- one free block before any grant, whatever its stamp
abbrev alone : ℕ → ℕ → ℕ → State
alone limit n x = record { limit = limit; blocks = block n (Free x) ∷ []; calls = 1; grants = 0 }

alone_is_fresh : (limit n x : ℕ) → x < 4 → (cs : List Command) → answers cs (alone limit n x) ≡ answers cs (start n limit)
alone_is_fresh limit n x h cs =
    alike_answers _ _ cs (alone limit n x) (start (total (alone limit n x).blocks) limit) (alike_fresh (alone limit n x) n x 0 refl refl (omega arith))
    ∙ map_same (raise_number 0) raise_none _
    ∙ ap₂ (λ l m. answers l (start m limit)) (map_same (renumber (number_without 0 0)) (renumber_same _ (number_without_none 0)) cs) (let e : n + 0 ≡ n = omega arith in e)

extended : (size more limit : ℕ) → nat_lt max_size (size + 0 + suc more) ≡ false → (step (command.Extend (suc more)) (start size limit)).state ≡ alone limit (size + suc more) 3
extended size more limit e = search (arith)

pub extended_law : (size more limit : ℕ) → size + more ≤ max_size → (cs : List Command)
    → answers cs (after (command.Extend more ∷ []) (start size limit)) ≡ answers cs (start (size + more) limit)
extended_law size zero limit h cs = alone_is_fresh limit size 0 (omega arith) cs ∙ ap (λ n. answers cs (start n limit)) (let e : size ≡ size + 0 = omega arith in e)
extended_law size (suc more) limit h cs = ap (answers cs) (extended size more limit (le-ltb max_size (size + 0 + suc more) (omega arith))) ∙ alone_is_fresh limit (size + suc more) 3 (omega arith) cs
