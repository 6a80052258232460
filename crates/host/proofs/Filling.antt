-- A read in place: the filled front of a room grows by what was read after it.
use Rattle.std.proofs.Common.{◌≡◌, ℕ, ◌+◌, ◌≤◌, List, ◌++◌, None, Some, length, take, sym, ap, subst, ◌∙◌, append_assoc, length-take-le}
use Rattle.std.proofs.Math.Seq.{take-append-add}
use Rattle.std.proofs.lemmas.List.{take-append-le}
use borrow.Rule.Slice.PartMut.{put_mid, post_of}
use Rattle.std.specs.declared.option.Option.{Option}
use Rattle.std.specs.Io.KnownBytes.{Consumes}

consumes_both : (a b c : Option (List ℕ)) (bs cs : List ℕ) → Consumes a b bs → Consumes b c cs → Consumes a c (bs ++ cs)
consumes_both None b c bs cs p q = tt
consumes_both (Some x) None c bs cs p q = absurd p
consumes_both (Some x) (Some y) None bs cs p q = absurd q
consumes_both (Some x) (Some y) (Some z) bs cs p q = p ∙ ap (λ l. bs ++ l) q ∙ sym (append_assoc bs cs z)

front_grows : (d k n : ℕ) (xs ys : List ℕ) → d ≤ length xs → n ≤ length ys → take (d + n) (put_mid d k xs ys) ≡ take d xs ++ take n ys
front_grows d k n xs ys h l =
    ap (λ m. take (m + n) (put_mid d k xs ys)) (sym (length-take-le d xs h))
    ∙ take-append-add (take d xs) (ys ++ post_of d k xs) n
    ∙ ap (λ zs. take d xs ++ zs) (take-append-le n ys (post_of d k xs) l)

-- the room had d bytes filled, and n bytes were read after them
pub filled_more : (a b c : Option (List ℕ)) (d k n : ℕ) (xs ys : List ℕ) → d ≤ length xs → n ≤ length ys → Consumes a b (take d xs) → Consumes b c (take n ys)
    → Consumes a c (take (d + n) (put_mid d k xs ys))
filled_more a b c d k n xs ys h l p q = subst (Consumes a c) (sym (front_grows d k n xs ys h l)) (consumes_both a b c (take d xs) (take n ys) p q)
