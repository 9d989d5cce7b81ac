-- What is put or taken piece by piece.
use Rattle.std.specs.Prelude.{◌≡◌, ℕ, ◌+◌, ◌-◌, List, [], ◌++◌, ◌^◌, ◌<◌, ◌≤◌, min, length, option_map, IfSome, take, drop, Option, Some, None, refl}
use Rattle.std.proofs.Common.{arith, rules, ap, sym, ◌∙◌}
use Rattle.std.proofs.lemmas.List.{append_assoc, append-nil, drop-drop, length-drop, length-take, take-append-drop, take-append-le, take_all}
use Rattle.relay_io.specs.Streams.{append, prepend}

-- appending nothing
pub append-none : (told : Option (List ℕ)) → append told [] ≡ told
append-none None = refl
append-none (Some xs) = ap Some (append-nil xs)

-- appending two pieces, one after the other
pub append-append : (told : Option (List ℕ)) (xs ys : List ℕ) → append (append told xs) ys ≡ append told (xs ++ ys)
append-append None xs ys = refl
append-append (Some zs) xs ys = ap Some (append_assoc zs xs ys)

-- taking two pieces, one after the other
pub prepend-prepend : (xs ys : List ℕ) (told : Option (List ℕ)) → prepend xs (prepend ys told) ≡ prepend (xs ++ ys) told
prepend-prepend xs ys None = refl
prepend-prepend xs ys (Some zs) = ap Some (sym (append_assoc xs ys zs))

-- the rest of a list, as a slice to its end shows it
pub rest_is : {A : Type 0} (n : ℕ) (xs : List A) → take (length xs - n) (drop n xs) ≡ drop n xs
rest_is n xs = take_all (length xs - n) (drop n xs) (omega (arith, length-drop n xs))

-- a piece that was copied to the front of some room, and what is left after it
pub piece_given : (bytes copied room : List ℕ) (at k : ℕ) → copied ≡ take k (drop at bytes) → length copied ≡ k → drop at bytes ≡ take k (copied ++ drop k room) ++ drop (at + k) bytes
piece_given bytes copied room at k given length_is =
    let front : take k (copied ++ drop k room) ≡ take k (drop at bytes) = take-append-le k copied (drop k room) (omega (arith, length_is)) ∙ take_all k copied (omega (arith, length_is)) ∙ given in
    sym (take-append-drop k (drop at bytes)) ∙ ap (λ xs. xs ++ drop k (drop at bytes)) (sym front) ∙ ap (λ xs. take k (copied ++ drop k room) ++ xs) (drop-drop k at bytes)

-- what was read of some bytes, cut behind a limit that it did not reach, is all of them
pub uncut : (told : Option (List ℕ)) (before bytes : List ℕ) (limit cut : ℕ) → before ≡ [] → cut ≡ min (limit + 1) (2 ^ 64 - 1) → length bytes ≤ limit → length bytes < 2 ^ 63 → IfSome (option_map (take cut) told) (λ xs. bytes ≡ before ++ xs) → IfSome told (λ xs. bytes ≡ xs)
uncut None before bytes limit cut none cut_is within fits whole = search rules
uncut (Some xs) before bytes limit cut none cut_is within fits whole =
    let same : bytes ≡ take cut xs = whole ∙ ap (λ b. b ++ take cut xs) none in
    let shorter : length xs ≤ cut = omega (arith, ap length same, length-take cut xs, cut_is, within, fits) in
    same ∙ take_all cut xs shorter
