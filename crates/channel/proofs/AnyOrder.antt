-- Demand 3 a, by the steps of a permutation: two neighbours exchanged are two arrivals in either order.
use Prim.Native.Nat.{ℕ}
use mathlib.Core.Path.{◌≡◌, refl, ap, ap₂, ◌∙◌}
use mathlib.Core.List.{List, Permᴰ}
use Rattle.rules.specs.Taking.{Received, arrive, after}
use Rattle.laws.proofs.EitherOrder.{arrive_two}
use Rattle.channel.specs.Demand3.{AnyOrder}

module _ (t : List ℕ) (books : ℕ) where
  by_steps : {xs ys : List (List ℕ)} (s : Received) → Permᴰ xs ys → after t books s xs ≡ after t books s ys
  unfolding after
  by_steps s Permᴰ.nil = refl
  by_steps s (Permᴰ.cons {a} {b} {l₁} e rest) = ap (λ (x : List ℕ). after t books (arrive t books s x) l₁) e ∙ by_steps (arrive t books s b) rest
  by_steps s (Permᴰ.swap {a} {b} {a'} {b'} {l} e f) =
      ap (λ (u : Received). after t books u l) (arrive_two t books s a b ∙ ap₂ (λ (y x : List ℕ). arrive t books (arrive t books s y) x) f e)
  by_steps s (Permᴰ.trans first second) = by_steps s first ∙ by_steps s second

pub any_order : AnyOrder
any_order t books s xs ys steps = by_steps t books s steps
