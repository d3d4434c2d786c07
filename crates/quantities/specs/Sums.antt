-- Sums over the first n indices and over a list, and a row told place by place. Assumes nothing.
use Rattle.std.specs.Prelude.{ℕ, zero, suc, ◌+◌, if◌then◌else◌, List, [], ◌∷◌, map, ℤ, pos, ◌+ℤ◌, ◌==◌, slice_index, slice_index_or}
use Rattle.std.specs.List.{range_with_len}

-- f 0 + f 1 + .. + f (n - 1)
abbrev pub sum : ℕ → (ℕ → ℤ) → ℤ
sum zero f = pos 0
sum (suc n) f = sum n f +ℤ f n

abbrev pub sumℕ : ℕ → (ℕ → ℕ) → ℕ
sumℕ zero g = 0
sumℕ (suc n) g = sumℕ n g + g n

-- what f gives of each element of a list, together
abbrev pub sum_of : {A : Type 0} → (A → ℤ) → List A → ℤ
sum_of f [] = pos 0
sum_of f (x ∷ xs) = f x +ℤ sum_of f xs

abbrev pub count_of : {A : Type 0} → (A → ℕ) → List A → ℕ
count_of f [] = 0
count_of f (x ∷ xs) = f x + count_of f xs

-- 1 where two numbers are the same, else 0
abbrev pub same : ℕ → ℕ → ℕ
same a b = if a == b then 1 else 0

-- what stands at place i of a list of numbers, and nought past its end
abbrev pub at : List ℤ → ℕ → ℤ
at zs i = slice_index_or zs i (pos 0)

abbrev pub atℕ : List ℕ → ℕ → ℕ
atℕ ns i = slice_index ns i

-- the row f 0, f 1, .., f (n - 1)
abbrev pub row_of : {A : Type 0} → ℕ → (ℕ → A) → List A
row_of n f = map f (range_with_len 0 n)
