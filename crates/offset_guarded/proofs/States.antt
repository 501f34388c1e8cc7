-- The numbers of tickets of a state, and the guarded allocator that they are of.
use Rattle.std.proofs.Common.{◌≡◌, ℕ, ◌+◌, ◌*◌, ◌<◌, ◌≤◌, List, [], ◌∷◌, ◌++◌, length, get_or, take, drop, sym, subst, ap, ap₂, ◌∙◌, arith, length-append}
use Rattle.std.proofs.Math.Seq.{take-append_seam}
use Rattle.std.proofs.lemmas.List.{get_or_push, length-drop, take-append-drop}
use Rattle.offset_allocator.proofs.Saving.Bytes.{length-in}
use Rattle.offset_allocator.specs.Saving.State as allocator
use Rattle.offset_allocator.specs.Relations.{SameState}
use Rattle.offset_guarded.specs.{Guard.Guard, Numbers.checksum_from, Numbers.number_at, Numbers.numbers}
use Rattle.offset_guarded.specs.State.{IsHeader, IsStateOf, SameGuard, state_form, state_version, ticket_numbers}
use Rattle.offset_guarded.specs.declared.restore.Header.{Header}
use Rattle.offset_guarded.proofs.Bytes.{length-numbers, number_in, numbers-add, numbers_more, all_drop, same_front}
use Rattle.std.specs.List.{AllByRecursion, concat}

six : (bs : List ℕ) → numbers 6 bs ≡ number_at bs 0 ∷ number_at bs 1 ∷ number_at bs 2 ∷ number_at bs 3 ∷ number_at bs 4 ∷ number_at bs 5 ∷ []
six bs =
    let a = number_in 6 0 bs (omega arith) in
    let b = number_in 6 1 bs (omega arith) in
    let c = number_in 6 2 bs (omega arith) in
    let d = number_in 6 3 bs (omega arith) in
    let e = number_in 6 4 bs (omega arith) in
    let f = number_in 6 5 bs (omega arith) in
    λ i. a i ∷ b i ∷ c i ∷ d i ∷ e i ∷ f i ∷ []

-- the numbers that a header says
pub tickets_read : (bs : List ℕ) (h : Header) (g : Guard) → IsHeader bs h → g.serials ≡ numbers h.count (drop 48 bs) → g.given ≡ h.given → g.realm ≡ h.realm → g.step ≡ h.step
    → numbers (7 + length g.serials) bs ≡ ticket_numbers g ++ checksum_from 0 (ticket_numbers g) ∷ []
tickets_read bs h g hd serials given realm step =
    let count : length g.serials ≡ h.count = ap length serials ∙ length-numbers h.count (drop 48 bs) in
    let n = sym count in
    let v = sym given in
    let r = sym realm in
    let p = sym step in
    let s = sym serials in
    let a = hd.form in
    let b = hd.version in
    let c = hd.count in
    let d = hd.given in
    let e = hd.realm in
    let f = hd.step in
    let all : numbers (6 + h.count) bs ≡ ticket_numbers g =
    numbers-add 6 h.count bs ∙ ap (λ l. l ++ numbers h.count (drop 48 bs)) (six bs) ∙ (λ i. a i ∷ b i ∷ (c ∙ n) i ∷ (d ∙ v) i ∷ (e ∙ r) i ∷ (f ∙ p) i ∷ s i) in
    ap (λ m. numbers m bs) {x = 7 + length g.serials} {y = 6 + h.count + 1} (omega (arith, count)) ∙ numbers_more (6 + h.count) bs
    ∙ ap₂ (λ (l : List ℕ) (m : ℕ). l ++ m ∷ []) all (sym hd.sum ∙ ap (checksum_from 0) all)

-- what the bytes of a state have
pub record HasParts (g : Guard) (bs : List ℕ) : Type 0 where
  pub long : 88 + 8 * length g.serials ≤ length bs
  pub form : number_at bs 0 ≡ state_form
  pub version : number_at bs 1 ≡ state_version
  pub count : number_at bs 2 ≡ length g.serials
  pub given : number_at bs 3 ≡ g.given
  pub realm : number_at bs 4 ≡ g.realm
  pub step : number_at bs 5 ≡ g.step
  pub first : numbers (6 + length g.serials) bs ≡ ticket_numbers g
  pub sum : number_at bs (6 + length g.serials) ≡ checksum_from 0 (numbers (6 + length g.serials) bs)

pub parts : (g : Guard) (bs : List ℕ) → IsStateOf g bs → HasParts g bs
parts g bs st =
    let n : ℕ = length g.serials in
    let s : ℕ = checksum_from 0 (ticket_numbers g) in
    let at : (i : ℕ) → i < 7 + n → number_at bs i ≡ get_or (ticket_numbers g ++ s ∷ []) i 0 = λ i l. sym (number_in (7 + n) i bs l) ∙ ap (λ l. get_or l i 0) st.tickets in
    let words : List ℕ = allocator.words_in (drop (56 + 8 * n) bs) in
    let some : 8 ≤ length words = omega (
      arith,
      ap length st.space.text,
      length-append (allocator.block_words g.space.blocks ++ (concat g.space.bins ++ g.space.unused)) (allocator.checksum_from 0 (allocator.state_words g.space) ∷ []),
    ) in
    let seam : numbers (6 + n) bs ++ number_at bs (6 + n) ∷ [] ≡ ticket_numbers g ++ s ∷ [] =
    sym (numbers_more (6 + n) bs) ∙ ap (λ m. numbers m bs) {x = 6 + n + 1} {y = 7 + n} (omega arith) ∙ st.tickets in
    let long : length (numbers (6 + n) bs) ≡ length (ticket_numbers g) = length-numbers (6 + n) bs ∙ omega arith in
    let first : numbers (6 + n) bs ≡ ticket_numbers g =
    sym (take-append_seam (numbers (6 + n) bs) (number_at bs (6 + n) ∷ [])) ∙ ap₂ (λ (k : ℕ) (l : List ℕ). take k l) long seam ∙ take-append_seam (ticket_numbers g) (s ∷ []) in
    record {
      long = omega (arith, some, (length-in (drop (56 + 8 * n) bs)).0, length-drop (56 + 8 * n) bs);
      form = at 0 (omega arith);
      version = at 1 (omega arith);
      count = at 2 (omega arith);
      given = at 3 (omega arith);
      realm = at 4 (omega arith);
      step = at 5 (omega arith);
      first = first;
      sum = at (6 + n) (omega arith) ∙ get_or_push (ticket_numbers g) s 0 (6 + n) (omega arith) ∙ ap (checksum_from 0) (sym first);
    }

-- the serials of a state
pub serials_of : (g : Guard) (bs : List ℕ) → IsStateOf g bs → numbers (length g.serials) (drop 48 bs) ≡ g.serials
serials_of g bs st =
    ap (drop 6) (sym (numbers-add 6 (length g.serials) bs) ∙ (parts g bs st).first)

-- bytes are of one guarded allocator
pub one_guard : (g h : Guard) (bs : List ℕ) → IsStateOf g bs → IsStateOf h bs
    → ((bytes : List ℕ) → allocator.IsStateOf g.space bytes → allocator.IsStateOf h.space bytes → SameState g.space h.space) → SameGuard g h
one_guard g h bs s t spaces =
    let p = parts g bs s in
    let q = parts h bs t in
    let count : length h.serials ≡ length g.serials = sym q.count ∙ p.count in
    let serials : h.serials ≡ g.serials = sym (serials_of h bs t) ∙ ap (λ n. numbers n (drop 48 bs)) count ∙ serials_of g bs s in
    let given : h.given ≡ g.given = sym q.given ∙ p.given in
    let realm : h.realm ≡ g.realm = sym q.realm ∙ p.realm in
    let step : h.step ≡ g.step = sym q.step ∙ p.step in
    let space : SameState g.space h.space = spaces (drop (56 + 8 * length g.serials) bs) s.space (subst (λ n. allocator.IsStateOf h.space (drop (56 + 8 * n) bs)) count t.space) in
    λ i. record { space = space i; serials = serials i; given = given i; realm = realm i; step = step i }

-- and it has one list of bytes
pub one_text : (g : Guard) (ks bs : List ℕ) → AllByRecursion (λ x. x < 256) ks → AllByRecursion (λ x. x < 256) bs → IsStateOf g ks → IsStateOf g bs
    → ((xs ys : List ℕ) → AllByRecursion (λ x. x < 256) xs → AllByRecursion (λ x. x < 256) ys → allocator.IsStateOf g.space xs → allocator.IsStateOf g.space ys → xs ≡ ys) → ks ≡ bs
one_text g ks bs small few s t rests =
    let n : ℕ = length g.serials in
    let p = parts g ks s in
    let q = parts g bs t in
    let front : take (8 * (7 + n)) ks ≡ take (8 * (7 + n)) bs =
    same_front (7 + n) ks bs (omega (arith, p.long)) (omega (arith, q.long)) small few (s.tickets ∙ sym t.tickets) in
    let rest : drop (56 + 8 * n) ks ≡ drop (56 + 8 * n) bs = rests _ _ (all_drop (56 + 8 * n) ks small) (all_drop (56 + 8 * n) bs few) s.space t.space in
    let at : 8 * (7 + n) ≡ 56 + 8 * n = omega arith in
    sym (take-append-drop (56 + 8 * n) ks) ∙ ap₂ (λ (l m : List ℕ). l ++ m) (subst (λ k. take k ks ≡ take k bs) at front) rest ∙ take-append-drop (56 + 8 * n) bs
