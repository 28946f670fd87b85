-- What comes of a reader read by read: where its bytes are known, what comes next stands behind what came before.
use Rattle.std.proofs.Common.{◌≡◌, ℕ, ◌+◌, List, ◌++◌, None, Some, take, drop, sym, ap, subst, ◌∙◌, append_assoc}
use Rattle.std.proofs.Math.Seq.{take-add}
use Rattle.std.specs.Io.KnownBytes.{Consumes}
use Rattle.std.specs.declared.option.Option.{Option}

came_then : (a b c : Option (List ℕ)) (bs cs : List ℕ) → Consumes a b bs → Consumes b c cs → Consumes a c (bs ++ cs)
came_then None b c bs cs p q = tt
came_then (Some x) None c bs cs p q = absurd p
came_then (Some x) (Some y) None bs cs p q = absurd q
came_then (Some x) (Some y) (Some z) bs cs p q = p ∙ ap (λ l. bs ++ l) q ∙ sym (append_assoc bs cs z)

-- into the room xs, which is ys then, behind the first n bytes
pub came_more : (a b c : Option (List ℕ)) (xs ys : List ℕ) (n m : ℕ) → take n ys ≡ take n xs → Consumes a b (take n xs) → Consumes b c (take m (drop n ys))
    → Consumes a c (take (n + m) ys)
came_more a b c xs ys n m same before more =
    subst (Consumes a c) (sym (take-add n m ys)) (came_then a b c (take n ys) (take m (drop n ys)) (subst (Consumes a b) (sym same) before) more)
