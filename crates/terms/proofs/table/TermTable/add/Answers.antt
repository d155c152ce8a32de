use Rattle.std.proofs.Common.{sym, refl, ap, ◌∙◌, inl, inr, arith}
use Rattle.terms.specs.Terms.{place}
use Rattle.terms.proofs.Adding.{p_le, opened_added, closed_added, set_added, refused}
use Rattle.terms.proofs.table.TermTable.add.Goals as goal
use Rattle.terms.proofs.table.TermTable.add.Goals.{else-at-len-via-then-at-len+else-not-less, else-at-len-via-else-at-len}

pub open_row-requires-clause-place : goal.open_row-requires-clause-place
open_row-requires-clause-place g c =
    let k = g.K.Kind.model c.args.kind.now in
    let e = c.position-at.ensures ∙ ap (place k c.args.mono) c.terms.ensures in
    p_le k (g.met.K.Kind.holds c.args.kind.now) c.args.self.now c.requires c.args.code c.args.mono c.if-code-eq0.false c.position-at.result e

pub returns-then-sum-eq0-clause-sum : goal.returns-then-sum-eq0-clause-sum
returns-then-sum-eq0-clause-sum g c =
    let k = g.K.Kind.model c.args.kind.now in
    let e = c.position-at.ensures ∙ ap (place k c.args.mono) c.terms.ensures in
    closed_added k (g.met.K.Kind.holds c.args.kind.now) c.args.self.now c.requires c.args.code c.args.mono c.if-code-eq0.false c.position-at.result e
    c.if-at-len.true _ (sym c.if-not-less.ensures) _ _ _ c.if-sum-eq0.true c.zero_row.ensures refl c.close_row.ensures

pub returns-else-sum-eq0-clause-sum : goal.returns-else-sum-eq0-clause-sum
returns-else-sum-eq0-clause-sum g c =
    let k = g.K.Kind.model c.args.kind.now in
    let e = c.position-at.ensures ∙ ap (place k c.args.mono) c.terms.ensures in
    set_added k (g.met.K.Kind.holds c.args.kind.now) c.args.self.now c.requires c.args.code c.args.mono c.if-code-eq0.false c.position-at.result e
    c.if-at-len.true _ (sym c.if-not-less.ensures) _ _ _ c.if-sum-eq0.false refl refl

pub returns-then-len-self-clause-sum : goal.returns-then-len-self-clause-sum
returns-then-len-self-clause-sum g c =
    let k = g.K.Kind.model c.args.kind.now in
    let e = c.position-at.ensures ∙ ap (place k c.args.mono) c.terms.ensures in
    opened_added k (g.met.K.Kind.holds c.args.kind.now) c.args.self.now c.requires c.args.code c.args.mono c.if-code-eq0.false c.position-at.result e
    _ (omega arith) refl c.open_row.ensures
    (elim c.else-at-len.branch [ else-at-len-via-then-at-len+else-not-less w ↦ inr (w.index-self-at.result, w.if-at-len.true, sym w.if-not-less.ensures) | else-at-len-via-else-at-len w ↦ inl w.if-at-len.false ])

pub returns-else-len-self-clause-sum : goal.returns-else-len-self-clause-sum
returns-else-len-self-clause-sum g c =
    let k = g.K.Kind.model c.args.kind.now in
    let e = c.position-at.ensures ∙ ap (place k c.args.mono) c.terms.ensures in
    refused k (g.met.K.Kind.holds c.args.kind.now) c.args.self.now c.requires c.args.code c.args.mono c.if-code-eq0.false c.position-at.result e
    (omega arith)
    (elim c.else-at-len.branch [ else-at-len-via-then-at-len+else-not-less w ↦ inr (w.index-self-at.result, w.if-at-len.true, sym w.if-not-less.ensures) | else-at-len-via-else-at-len w ↦ inl w.if-at-len.false ])
