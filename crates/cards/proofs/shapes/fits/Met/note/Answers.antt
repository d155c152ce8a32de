use Rattle.std.proofs.Common.{◌≡◌, ◌+◌, [], ◌∷◌, length, sym, refl, ap, ◌∙◌, subst, inl, arith, length-append}
use Rattle.algebra.specs.Lists.{Mem}
use Rattle.cards.specs.Met.{met}
use Rattle.cards.specs.Shapes.{rows, all_rows, EachFits}
use Rattle.cards.proofs.Reach.{mem_left, mem_right}
use Rattle.cards.proofs.Shaping.{mem_same, each_push, rows_push}
use Rattle.cards.proofs.shapes.fits.Met.note.Goals as goal

pub returns-then-contains-clause-has : goal.returns-then-contains-clause-has
returns-then-contains-clause-has c = λ _.
    let e = c.if-contains.ensures.cases in
    subst (Mem c.args.x) c.as_slice.ensures (mem_same c.as_slice.result.now c.args.x e.0 e.1 e.2)

pub returns-clause-sums : goal.returns-clause-sums
returns-clause-sums c =
    let k = c.args.words.now.width in
    let q = c.args.words.now.order in
    let cap = c.args.cap in
    let x = c.args.x in
    let f = c.args.self.now in
    let S = c.requires in
    let n = c.rows-n.result in
    let size : n ≡ rows k q x.counts = c.rows-n.ensures.value in
    record {
      each = subst (EachFits k q cap) (sym c.push.ensures) (each_push k q cap (met f) x S.each (omega arith));
      rows = (let a : f.rows + n ≡ all_rows k q (met f) + rows k q x.counts = omega arith in a) ∙ sym (rows_push k q (met f) x) ∙ ap (all_rows k q) (sym c.push.ensures);
      most = omega (arith, simp length-append at (ap length c.push.ensures));
    }

pub returns-clause-kept : goal.returns-clause-kept
returns-clause-kept c = λ y h. subst (Mem y) (sym c.push.ensures) (mem_left y (met c.args.self.now) (c.args.x ∷ []) h)

pub returns-clause-has : goal.returns-clause-has
returns-clause-has c = λ _. subst (Mem c.args.x) (sym c.push.ensures) (mem_right c.args.x (met c.args.self.now) (c.args.x ∷ []) (inl refl))
