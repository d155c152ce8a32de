-- The nets of the input words.
use Rattle.std.proofs.Common.{◌≡◌, ℕ, zero, suc, ◌+◌, ◌*◌, ◌/◌, ◌%◌, ◌^◌, ◌<◌, ◌≤◌, false, eqb, ◌⊎◌, List, [], ◌∷◌, ◌++◌, length, get_or, sym, refl, ap, ◌∙◌, inl, inr, le_refl, mod-lt, suc-mul, mul_comm, div-lt_iff_lt-mul, eq-zero-or-pos, mul-le-mul, pow-suc, mul-zero, zero-add, zero-mul, div-one, arith, length-append}
use native.Mathlib.Nat.{div-add-mod, div-div-eq-div-mul}
use Rattle.std.proofs.lemmas.List.{get_or_append_left, get_or-append-add}
use Rattle.netlist.specs.Circuits.{Circuit}
use Rattle.netlist.specs.Meaning.{bit, bit_of, word_bits, input_bits, InputsPlaced}
use Rattle.netlist.proofs.Meanings.{kept}

word_long : (k x : ℕ) → length (word_bits k x) ≡ k
word_long zero x = refl
word_long (suc k) x = ap suc (word_long k (x / 2))

-- halving a word moves its bits down by one
halved : (x i : ℕ) → x / 2 / 2 ^ i % 2 ≡ x / 2 ^ suc i % 2
halved x i = ap (λ n. n % 2) (div-div-eq-div-mul x 2 (2 ^ i) ∙ ap (λ n. x / n) (mul_comm 2 (2 ^ i) ∙ sym (pow-suc 2 i)))

word_at : (k x i : ℕ) → i < k → get_or (word_bits k x) i false ≡ bit_of x i
word_at zero x i h = absurd (omega arith)
word_at (suc k) x zero h = ap (λ n. eqb (n % 2) 1) (sym (div-one x))
word_at (suc k) x (suc i) h = word_at k (x / 2) i (omega arith) ∙ ap (λ n. eqb n 1) (halved x i)

inputs_long : (k : ℕ) (xs : List ℕ) → length (input_bits k xs) ≡ length xs * k
inputs_long k [] = sym (zero-mul k)
inputs_long k (x ∷ xs) =
    let a = length-append (word_bits k x) (input_bits k xs) in
    let b = word_long k x in
    let c = inputs_long k xs in
    let d = suc-mul (length xs) k in
    omega arith

inputs_at : (k : ℕ) (xs : List ℕ) (w i : ℕ) → w < length xs → i < k → get_or (input_bits k xs) (w * k + i) false ≡ bit_of (get_or xs w 0) i
inputs_at k [] w i h l = absurd (omega arith)
inputs_at k (x ∷ xs) zero i h l =
    let e : zero * k + i ≡ i = ap (λ n. n + i) (zero-mul k) ∙ zero-add i in
    ap (λ n. get_or (word_bits k x ++ input_bits k xs) n false) e ∙ get_or_append_left (word_bits k x) (input_bits k xs) false i (let a = word_long k x in omega arith) ∙ word_at k x i l
inputs_at k (x ∷ xs) (suc w) i h l =
    let a = word_long k x in
    let d = suc-mul w k in
    let e : suc w * k + i ≡ length (word_bits k x) + (w * k + i) = omega arith in
    ap (λ n. get_or (word_bits k x ++ input_bits k xs) n false) e ∙ get_or-append-add (word_bits k x) (input_bits k xs) (w * k + i) false ∙ inputs_at k xs w i (omega arith) l

inside : (k n w i : ℕ) → w < n → i < k → w * k + i < n * k
inside k n w i h l =
    let d = suc-mul w k in
    let m : suc w * k ≤ n * k = mul-le-mul h (le_refl k) in
    omega arith

-- an input's net keeps its bit, whatever the gates
net_of_bit : (k : ℕ) (xs : List ℕ) (c : Circuit) (w i : ℕ) → w < length xs → i < k → bit c (input_bits k xs) (w * k + i) ≡ bit_of (get_or xs w 0) i
net_of_bit k xs c w i h l =
    let long = inputs_long k xs in
    let low = inside k (length xs) w i h l in
    kept (input_bits k xs) c.gates (w * k + i) (omega arith) ∙ inputs_at k xs w i h l

bit_of_net : (k : ℕ) (xs : List ℕ) (c : Circuit) (x : ℕ) → x < length xs * k → bit c (input_bits k xs) x ≡ bit_of (get_or xs (x / k) 0) (x % k)
bit_of_net k xs c x h = by (eq-zero-or-pos k)
  where
    by : (k ≡ zero) ⊎ (zero < k) → bit c (input_bits k xs) x ≡ bit_of (get_or xs (x / k) 0) (x % k)
    by (inl z) = let none = ap (λ n. length xs * n) z ∙ mul-zero (length xs) in absurd (omega arith)
    by (inr p) =
        let same = sym (div-add-mod x k) ∙ ap (λ n. n + x % k) (mul_comm k (x / k)) in
        ap (bit c (input_bits k xs)) same ∙ net_of_bit k xs c (x / k) (x % k) ((div-lt_iff_lt-mul {k = k} {x = x} {y = length xs} p).1 h) (mod-lt x p)

pub inputs_placed_lem : (k : ℕ) (xs : List ℕ) → InputsPlaced k xs
inputs_placed_lem k xs = record { many = inputs_long k xs; net_of_bit = net_of_bit k xs; bit_of_net = bit_of_net k xs }
