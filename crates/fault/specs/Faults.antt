-- The number, the part and the place of each refusal, and the line that the program writes for it. Assumes nothing.
use Rattle.std.specs.Prelude.{ℕ, List, ◌++◌, codes, decimal}
use Rattle.fault.specs.declared.Fault.{Fault}
use Rattle.fault.specs.declared.Fault.TheVariants.{PolynomialOutOfRange, PolynomialReducible, BaseTooWide, TowerConstant, WrongForm, SizesOutOfRange, SizesNotTheShelfs, NetNotDriven, TooManyNets, LineMissing, BytesAfterOut, JobTooLong, NoSuchDrawer, DrawerFilled, DrawerEmpty, WordOutOfRange, BadCardRow, BitTableFull, TooManyBitTerms, ProductTableFull, CardTableFull}
use Rattle.fault.specs.declared.Part.{Part}
use Rattle.fault.specs.declared.Part.TheVariants.{Field, Reader, Shelf, Bits, Card}

-- the number of a refusal
abbrev pub number : Fault → ℕ
number PolynomialOutOfRange = 1
number PolynomialReducible = 2
number BaseTooWide = 3
number TowerConstant = 4
number (WrongForm line) = 10
number SizesOutOfRange = 11
number SizesNotTheShelfs = 12
number (NetNotDriven line) = 13
number (TooManyNets line) = 14
number (LineMissing line) = 15
number (BytesAfterOut line) = 16
number JobTooLong = 17
number NoSuchDrawer = 20
number DrawerFilled = 21
number DrawerEmpty = 22
number WordOutOfRange = 23
number (BadCardRow row) = 24
number BitTableFull = 30
number TooManyBitTerms = 31
number ProductTableFull = 40
number CardTableFull = 41

-- the part of the product that refuses
abbrev pub part : Fault → Part
part PolynomialOutOfRange = Field
part PolynomialReducible = Field
part BaseTooWide = Field
part TowerConstant = Field
part (WrongForm line) = Reader
part SizesOutOfRange = Reader
part SizesNotTheShelfs = Reader
part (NetNotDriven line) = Reader
part (TooManyNets line) = Reader
part (LineMissing line) = Reader
part (BytesAfterOut line) = Reader
part JobTooLong = Reader
part NoSuchDrawer = Shelf
part DrawerFilled = Shelf
part DrawerEmpty = Shelf
part WordOutOfRange = Shelf
part (BadCardRow row) = Shelf
part BitTableFull = Bits
part TooManyBitTerms = Bits
part ProductTableFull = Card
part CardTableFull = Card

-- the line in the reader, the words line being line 1; the row of a bad card row, from 0; and 0 elsewhere
abbrev pub place : Fault → ℕ
place PolynomialOutOfRange = 0
place PolynomialReducible = 0
place BaseTooWide = 0
place TowerConstant = 0
place (WrongForm line) = line
place SizesOutOfRange = 1
place SizesNotTheShelfs = 1
place (NetNotDriven line) = line
place (TooManyNets line) = line
place (LineMissing line) = line
place (BytesAfterOut line) = line
place JobTooLong = 0
place NoSuchDrawer = 0
place DrawerFilled = 0
place DrawerEmpty = 0
place WordOutOfRange = 0
place (BadCardRow row) = row
place BitTableFull = 0
place TooManyBitTerms = 0
place ProductTableFull = 0
place CardTableFull = 0

-- the part as it is written
abbrev pub part_name : Part → List ℕ
part_name Field = codes "field"
part_name Reader = codes "reader"
part_name Shelf = codes "shelf"
part_name Bits = codes "bits"
part_name Card = codes "card"

-- what is written for a refusal, without the line feed
abbrev pub refusal_line : Fault → List ℕ
refusal_line e = codes "refused " ++ (decimal (number e) ++ (codes " " ++ (part_name (part e) ++ (codes " " ++ decimal (place e)))))
