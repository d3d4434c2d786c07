-- A tree of buses, told by the upper bus of each. Assumes nothing.
use Rattle.std.specs.Prelude.{ℕ, ◌-◌, ◌<◌, ◌≤◌, List, EachIndex}
use Rattle.quantities.specs.Sums.{atℕ}

-- the upper bus of bus i; the list begins with that of bus 1, since bus 0 is the root
abbrev pub upper : List ℕ → ℕ → ℕ
upper us i = atℕ us (i - 1)

-- each upper bus has a smaller number than its bus
abbrev pub Falling : List ℕ → Type 0
Falling us = EachIndex us (λ k. atℕ us k ≤ k)

-- bus i is b or a descendant of b: the path of upper buses that starts at i reaches b
pub data Under (up : ℕ → ℕ) (b : ℕ) : ℕ → Type 0 where
  here : Under up b b
  from : (i : ℕ) → 0 < i → Under up b (up i) → Under up b i
