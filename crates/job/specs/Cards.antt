-- What is shown of a card and of its rows. Assumes nothing.
use Rattle.std.specs.Prelude.{ℕ, List, [], length}
use Rattle.bounded.specs.Items.{items}
use Rattle.terms.specs.declared.Term.{Term}
use Rattle.job.specs.declared.card.Row.{Row}
use Rattle.job.specs.declared.card.Card.{Card}
use Rattle.job.specs.declared.card.Header.{Header}
use Rattle.job.specs.Printing.{term_line, degree, card_text}

-- the terms of a card
abbrev pub terms_of : Card → List (Term (List ℕ))
terms_of c = items c.rows

-- the first line
abbrev pub header_of : Card → Header
header_of c = record { words = c.words; width = c.width; polynomial = c.polynomial; rows = length (terms_of c); degree = degree (terms_of c) }

-- what stands past the last row
abbrev pub no_row : Term (List ℕ)
no_row = record { code = 0; mono = [] }

-- the term of a row
abbrev pub term_of : Row → Term (List ℕ)
term_of r = r.term

-- the line of a row
abbrev pub shown_row : Row → List ℕ
shown_row r = term_line r.words (term_of r)

-- the text of a card
abbrev pub shown_card : Card → List ℕ
shown_card c = card_text c.words c.width c.polynomial (terms_of c)
