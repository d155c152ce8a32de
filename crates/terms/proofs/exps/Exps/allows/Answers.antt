use Rattle.std.proofs.Common.{◌≡◌, ℕ, ◌&&◌, nat_le, List, [], ◌∷◌, length, sym, refl, ap, ◌∙◌, arith, rules, tests}
use Rattle.std.specs.List.{list_all, zip}
use Rattle.std.proofs.lemmas.Iterator.{YieldsList-from_zip, YieldsList-from_slice}
use Rattle.std.proofs.lemmas.Iterator.Search.{all_from_yields_List}
use Rattle.terms.specs.Numbers.{inside}
use Rattle.terms.proofs.exps.Exps.allows.Goals as goal

inside_by_zip : (ls xs : List ℕ) → length xs ≡ length ls → list_all (λ (p : ℕ × ℕ). nat_le p.0 p.1) (zip xs ls) ≡ inside ls xs
inside_by_zip [] [] e = refl
inside_by_zip [] (x ∷ xs) e = absurd (omega arith)
inside_by_zip (l ∷ ls) [] e = absurd (omega arith)
inside_by_zip (l ∷ ls) (x ∷ xs) e = ap (λ b. nat_le x l && b) (inside_by_zip ls xs (omega arith))

pub returns : goal.returns
returns c =
    let l : length c.args.exponents ≡ 3 = search rules in
    all_from_yields_List (λ (p : ℕ × ℕ). nat_le p.0 p.1) c.all.new.self _ _ c.all.ensures.ran
    (YieldsList-from_zip {s = c.zip.result} (YieldsList-from_slice c.args.exponents cc) (YieldsList-from_slice c.args.self.now.tops cc))
    (λ x b q k. search (rules, tests))
    ∙ inside_by_zip c.args.self.now.tops c.args.exponents (l ∙ sym c.args.self.now.three)
