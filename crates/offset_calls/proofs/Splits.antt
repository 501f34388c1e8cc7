-- The run that slides is at the same place in two lists that differ only in numbers and stamps.
use Rattle.offset_calls.proofs.Common.{◌≡◌, ℕ, ◌-◌, not, List, [], ◌∷◌, ◌++◌, length, Option, Some, None, option_map, nat_eq, nat_le, if◌then◌else◌, refl, ap, ap₂, subst₂, arith, total}
use Rattle.offset_script.proofs.{Pairs.Pair, Pairs.left, Pairs.right, Pairs.lefts, Pairs.rights, Pairs.same_free, Pairs.same_total, Tests.if_same}
use Rattle.offset_script.specs.Totals.{live}
use Rattle.offset_calls.proofs.Common.{Bool, ◌&&◌, ◌||◌, ◌+◌, ◌∙◌, sym, append-nil, length-map, State}
use Rattle.offset_calls.specs.{Stepped.first_run, Stepped.to_the_end, Budget.is_within, Budget.longest_that, Budget.start_of, Budget.next_of}
use Rattle.offset_calls.specs.RoomBySteps.{serves, shortest_that, cheapest_that, cheapest_by, blocks_short}
use Rattle.offset_calls.proofs.SteppedPairs.{given_pairs, same_last, used_pairs}
use Rattle.offset_script.specs.Machine as machine
use Rattle.offset_calls.specs.Room.{Split, from_first, after_first, free_units, shortest, cost_of, is_less, cheaper, cheapest}

-- runs on both sides: of the same pairs, or none
pub data IsSameSplit (ps : List Pair) : Option Split → Option Split → Type 0 where
  no_split : IsSameSplit ps None None
  same_split : (f r b : List Pair) → ps ≡ f ++ (r ++ b)
      → IsSameSplit ps (Some (record { front = lefts f; run = lefts r; back = lefts b })) (Some (record { front = rights f; run = rights r; back = rights b }))

-- the same of runs at the start
data IsSameStart (ps : List Pair) : Option Split → Option Split → Type 0 where
  no_start : IsSameStart ps None None
  same_start : (r b : List Pair) → ps ≡ r ++ b
      → IsSameStart ps (Some (record { front = []; run = lefts r; back = lefts b })) (Some (record { front = []; run = rights r; back = rights b }))

from_both : (q : Pair) (ps : List Pair) (o o' : Option Split) → IsSameStart ps o o' → IsSameStart (q ∷ ps) (option_map (from_first (left q)) o) (option_map (from_first (right q)) o')
from_both q ps None None no_start = no_start
from_both q ps o o' (same_start r b e) = same_start (q ∷ r) b (ap (λ l. q ∷ l) e)

units_same : (q : Pair) → free_units (left q) ≡ free_units (right q)
units_same q = ap (λ x. if x then q.size else 0) (same_free q.kind)

shortest_same : (n : ℕ) (ps : List Pair) → IsSameStart ps (shortest n (lefts ps)) (shortest n (rights ps))
shortest_same n [] = no_start
shortest_same n (q ∷ ps) = if_same (IsSameStart (q ∷ ps)) _ _ _ _ _ _ (ap (nat_le n) (units_same q)) (λ e. same_start (q ∷ []) ps refl)
    (subst₂ (λ x y. IsSameStart (q ∷ ps) (option_map (from_first (left q)) (shortest (n - x) (lefts ps))) (option_map (from_first (right q)) (shortest (n - y) (rights ps)))) refl (units_same q)
    (from_both q ps _ _ (shortest_same (n - free_units (left q)) ps)))

-- what a run costs
live_total : (ps : List Pair) → total (live (lefts ps)) ≡ total (live (rights ps))
live_total [] = refl
live_total (q ∷ ps) = search (arith, (live_total ps), not, same_free)

live_length : (ps : List Pair) → length (live (lefts ps)) ≡ length (live (rights ps))
live_length [] = refl
live_length (q ∷ ps) = search (arith, (live_length ps), not, same_free)

pub same_cost : (ps : List Pair) → cost_of (lefts ps) ≡ cost_of (rights ps)
same_cost ps = ap₂ (λ (u r : ℕ). record { units = u; ranges = r }) (live_total ps) (live_length ps)

cheaper_same : (q : Pair) (ps : List Pair) (p p' o o' : Option Split) → IsSameStart (q ∷ ps) p p' → IsSameSplit ps o o' → IsSameSplit (q ∷ ps) (cheaper (left q) p o) (cheaper (right q) p' o')
cheaper_same q ps None None None None no_start no_split = no_split
cheaper_same q ps p p' None None (same_start r b e) no_split = same_split [] r b e
cheaper_same q ps None None o o' no_start (same_split f r b e) = same_split (q ∷ f) r b (ap (λ l. q ∷ l) e)
cheaper_same q ps p p' o o' (same_start r b e) (same_split f k c d) = if_same (IsSameSplit (q ∷ ps)) _ _ _ _ _ _ (ap₂ is_less (same_cost r) (same_cost k))
    (λ z. same_split [] r b e) (same_split (q ∷ f) k c (ap (λ l. q ∷ l) d))

pub same_cheapest : (n : ℕ) (ps : List Pair) → IsSameSplit ps (cheapest n (lefts ps)) (cheapest n (rights ps))
same_cheapest n [] = no_split
same_cheapest n (q ∷ ps) = cheaper_same q ps _ _ _ _ (if_same (IsSameStart (q ∷ ps)) _ _ _ _ _ _ (same_free q.kind) (λ e. shortest_same n (q ∷ ps)) no_start) (same_cheapest n ps)

-- what room costs
pub same_room_cost : (ps : List Pair) (o o' : Option Split) → IsSameSplit ps o o' → option_map (λ (p : Split). cost_of p.run) o ≡ option_map (λ (p : Split). cost_of p.run) o'
same_room_cost ps None None no_split = refl
same_room_cost ps o o' (same_split f r b e) = ap Some (same_cost r)

-- ---- runs by whole steps

shortest_that_same : (test test' : List machine.Block → Bool) → ((k : List Pair) → test (lefts k) ≡ test' (rights k)) → (ps : List Pair) → IsSameStart ps (shortest_that test (lefts ps)) (shortest_that test' (rights ps))
shortest_that_same test test' same [] = no_start
shortest_that_same test test' same (q ∷ ps) = if_same (IsSameStart (q ∷ ps)) _ _ _ _ _ _ (same (q ∷ [])) (λ e. same_start (q ∷ []) ps refl)
    (from_both q ps _ _ (shortest_that_same (λ r. test (left q ∷ r)) (λ r. test' (right q ∷ r)) (λ k. same (q ∷ k)) ps))

same_cheapest_that : (test test' : List machine.Block → Bool) → ((k : List Pair) → test (lefts k) ≡ test' (rights k)) → (ps : List Pair)
    → IsSameSplit ps (cheapest_that test (lefts ps)) (cheapest_that test' (rights ps))
same_cheapest_that test test' same [] = no_split
same_cheapest_that test test' same (q ∷ ps) = cheaper_same q ps _ _ _ _ (if_same (IsSameStart (q ∷ ps)) _ _ _ _ _ _ (same_free q.kind) (λ e. shortest_that_same test test' same (q ∷ ps)) no_start)
    (same_cheapest_that test test' same ps)

serves_pairs : (n want i j : ℕ) → i ≡ j → (ps : List Pair) → serves n want i (lefts ps) ≡ serves n want j (rights ps)
serves_pairs n want i j e ps = ap₂ (λ (x y : Bool). not x && y) (same_last ps)
    (ap₂ (λ (x y : Bool). x && y) (ap (nat_le want) (given_pairs n ps)) (ap₂ nat_le e (used_pairs n ps)))

pub same_cheapest_by : (s t : State) (ps : List Pair) → s.limit ≡ t.limit → s.blocks ≡ lefts ps → t.blocks ≡ rights ps → (n want spare : ℕ) → IsSameSplit ps (cheapest_by n want spare s) (cheapest_by n want spare t)
same_cheapest_by s t ps limit is is' n want spare =
    subst₂ (λ x y. IsSameSplit ps (cheapest_that (serves n want (blocks_short spare s.limit (length s.blocks))) x) (cheapest_that (serves n want (blocks_short spare t.limit (length t.blocks))) y)) (sym is) (sym is')
    (same_cheapest_that (serves n want (blocks_short spare s.limit (length s.blocks))) (serves n want (blocks_short spare t.limit (length t.blocks))) (serves_pairs n want _ _ (ap₂ (blocks_short spare) limit long)) ps)
  where
    long : length s.blocks ≡ length t.blocks
    long = ap (λ (l : List machine.Block). length l) is ∙ length-map ps left ∙ sym (ap (λ (l : List machine.Block). length l) is' ∙ length-map ps right)

-- ---- the first run

start_split : (ps : List Pair) (o o' : Option Split) → IsSameStart ps o o' → IsSameSplit ps o o'
start_split ps None None no_start = no_split
start_split ps o o' (same_start r b e) = same_split [] r b e

after_both : (q : Pair) (ps : List Pair) (o o' : Option Split) → IsSameSplit ps o o' → IsSameSplit (q ∷ ps) (option_map (after_first (left q)) o) (option_map (after_first (right q)) o')
after_both q ps None None no_split = no_split
after_both q ps o o' (same_split f r b e) = same_split (q ∷ f) r b (ap (λ l. q ∷ l) e)

-- it is of the same pairs, where it goes on as far on both sides
first_run_same : (reach reach' : List machine.Block → Split) → ((ps : List Pair) → IsSameStart ps (Some (reach (lefts ps))) (Some (reach' (rights ps)))) → (n from o : ℕ) (ps : List Pair)
    → IsSameSplit ps (first_run reach n from o (lefts ps)) (first_run reach' n from o (rights ps))
first_run_same reach reach' same n from o [] = no_split
first_run_same reach reach' same n from o (q ∷ []) = no_split
first_run_same reach reach' same n from o (q ∷ x ∷ ps) = if_same (IsSameSplit (q ∷ x ∷ ps)) _ _ _ _ _ _ (ap (λ b. b && (nat_le n q.size && nat_le from (o + q.size))) (same_free q.kind))
    (λ e. start_split (q ∷ x ∷ ps) _ _ (from_both q (x ∷ ps) _ _ (same (x ∷ ps)))) (after_both q (x ∷ ps) _ _ (first_run_same reach reach' same n from (o + q.size) (x ∷ ps)))

pub same_to_the_end : (n from o : ℕ) (ps : List Pair) → IsSameSplit ps (first_run to_the_end n from o (lefts ps)) (first_run to_the_end n from o (rights ps))
same_to_the_end n from o ps = first_run_same to_the_end to_the_end (λ qs. same_start qs [] (sym (append-nil qs))) n from o ps

longest_that_same : (test test' : List machine.Block → Bool) → ((k : List Pair) → test (lefts k) ≡ test' (rights k)) → (ps : List Pair)
    → IsSameStart ps (Some (longest_that test (lefts ps))) (Some (longest_that test' (rights ps)))
longest_that_same test test' same [] = same_start [] [] refl
longest_that_same test test' same (q ∷ ps) = if_same (λ x y. IsSameStart (q ∷ ps) (Some x) (Some y)) _ _ _ _ _ _ (same (q ∷ []))
    (λ e. from_both q ps _ _ (longest_that_same (λ r. test (left q ∷ r)) (λ r. test' (right q ∷ r)) (λ k. same (q ∷ k)) ps)) (same_start [] (q ∷ ps) refl)

within_pairs : (u r : ℕ) (ps : List Pair) → is_within u r (lefts ps) ≡ is_within u r (rights ps)
within_pairs u r ps = ap₂ (λ (m l : ℕ). nat_eq l 1 || (nat_le m u && nat_le l r)) (live_total ps) (live_length ps)

pub same_within : (u r n from o : ℕ) (ps : List Pair) → IsSameSplit ps (first_run (longest_that (is_within u r)) n from o (lefts ps)) (first_run (longest_that (is_within u r)) n from o (rights ps))
same_within u r n from o ps = first_run_same (longest_that (is_within u r)) (longest_that (is_within u r)) (longest_that_same (is_within u r) (is_within u r) (within_pairs u r)) n from o ps

-- how far a compaction within a budget comes
start_same : (o : ℕ) (ps : List Pair) → start_of o (lefts ps) ≡ start_of o (rights ps)
start_same o [] = refl
start_same o (q ∷ ps) = refl

pub same_goes_on : (f k b : List Pair) → next_of (record { front = lefts f; run = lefts k; back = lefts b }) ≡ next_of (record { front = rights f; run = rights k; back = rights b })
same_goes_on f k b = start_same (total (lefts f) + total (lefts k)) b ∙ ap₂ (λ (x y : ℕ). start_of (x + y) (rights b)) (same_total f) (same_total k)
