use Rattle.std.proofs.Common.{◌≡◌, ℕ, ◌+◌, ◌<◌, ◌≤◌, ◌^◌, ◌++◌, ◌∷◌, Some, None, length, length-append, refl, sym, ap, ◌∙◌, subst, arith}
use Rattle.std.specs.declared.cmp.Ordering.TheVariants.{Less, Equal, Greater}
use Rattle.store_tree.specs.KeyOrder.{key_cmp}
use Rattle.store_tree.specs.Shape.{contents_of, pairs_of}
use Rattle.store_tree.specs.Written.{IsWritten}
use Rattle.store_tree.proofs.Sides as sides
use Rattle.store_tree.proofs.Writing.{length-put_most, written-left, written-middle, written-right}
use Rattle.store_tree.proofs.written.+write.Goals as goal

pub write_beside-write_entry-requires : goal.write_beside-write_entry-requires
write_beside-write_entry-requires g t c κs within =
    let n = c.args.place.now in
    let shorter = (sides.shorter (pairs_of n) n refl).0 in
    let counted : n.count ≡ length (pairs_of n) = c.requires.even.2 in
    (omega (arith, shorter), (within, (sides.left_sorted (pairs_of n) n refl c.requires.in_order, omega (arith, shorter, counted, c.requires.room))))

pub write_beside-write_entry-requires-in-Greater : goal.write_beside-write_entry-requires-in-Greater
write_beside-write_entry-requires-in-Greater g t c κs within =
    let n = c.args.place.now in
    let shorter = (sides.shorter (pairs_of n) n refl).1 in
    let counted : n.count ≡ length (pairs_of n) = c.requires.even.2 in
    (omega (arith, shorter), (within, (sides.right_sorted (pairs_of n) n refl c.requires.in_order, omega (arith, shorter, counted, c.requires.room))))

pub write_beside-returns-in-Equal : goal.write_beside-returns-in-Equal
write_beside-returns-in-Equal g t c =
    let n = c.args.place.now in
    let e = c.args.item in
    let p : key_cmp e.0 n.item.0 ≡ Equal = cc in
    written-middle n c.requires.even c.requires.in_order e p

pub write_beside-overflow_add-place : goal.write_beside-overflow_add-place
write_beside-overflow_add-place g t c =
    let n = c.args.place.now in
    let e = c.args.item in
    let side = c.write_entry.new.branch in
    let w : IsWritten e n.left side None = rw c.in_default.is at c.write_entry.ensures in
    let most : length side.pairs ≤ length n.left.pairs + 1 = rw w.0 (length-put_most key_cmp e.0 e.1 n.left.pairs) in
    omega (arith, most, c.count.ensures, c.count-few.ensures, c.requires.room)

pub write_beside-returns-in_default : goal.write_beside-returns-in_default
write_beside-returns-in_default g t c =
    let n = c.args.place.now in
    let e = c.args.item in
    let side = c.write_entry.new.branch in
    let w : IsWritten e n.left side None = rw c.in_default.is at c.write_entry.ensures in
    let p : key_cmp e.0 n.item.0 ≡ Less = cc in
    let shorter = (sides.shorter (pairs_of n) n refl).0 in
    let counted : n.count ≡ length (pairs_of n) = c.requires.even.2 in
    written-left n c.requires.even c.requires.in_order e side _ c.requires.room p w.0 w.1 (omega (arith, shorter, counted, c.count.ensures, c.count-few.ensures))

pub write_beside-overflow_add-place-in-Greater : goal.write_beside-overflow_add-place-in-Greater
write_beside-overflow_add-place-in-Greater g t c =
    let n = c.args.place.now in
    let e = c.args.item in
    let side = c.write_entry-in-Greater.new.branch in
    let w : IsWritten e n.right side None = rw c.in_default-write_entry.is at c.write_entry-in-Greater.ensures in
    let most : length side.pairs ≤ length n.right.pairs + 1 = rw w.0 (length-put_most key_cmp e.0 e.1 n.right.pairs) in
    omega (arith, most, c.count-in-Greater.ensures, c.count-few-in-Greater.ensures, c.requires.room)

pub write_beside-returns-in_default-write_entry : goal.write_beside-returns-in_default-write_entry
write_beside-returns-in_default-write_entry g t c =
    let n = c.args.place.now in
    let e = c.args.item in
    let side = c.write_entry-in-Greater.new.branch in
    let w : IsWritten e n.right side None = rw c.in_default-write_entry.is at c.write_entry-in-Greater.ensures in
    let p : key_cmp e.0 n.item.0 ≡ Greater = cc in
    let shorter = (sides.shorter (pairs_of n) n refl).1 in
    let counted : n.count ≡ length (pairs_of n) = c.requires.even.2 in
    written-right n c.requires.even c.requires.in_order e side _ c.requires.room p w.0 w.1 (omega (arith, shorter, counted, c.count-in-Greater.ensures, c.count-few-in-Greater.ensures))

pub write_beside-returns-in-Some : goal.write_beside-returns-in-Some
write_beside-returns-in-Some g t c =
    let n = c.args.place.now in
    let w : IsWritten c.args.item n.left c.write_entry.new.branch (Some c.in-Some.back) = rw c.in-Some.is at c.write_entry.ensures in
    (w.0, λ i. record { left = w.1 i; item = n.item; right = n.right; count = n.count; height = n.height })
