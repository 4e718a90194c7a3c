-- The text of a report in HTML or in Markdown: its head, and parts, each with a heading, a sentence, and a text or a table.
use Rattle.std.specs.Prelude.{◌≡◌, ℕ, ◌==◌, ◌&&◌, ◌||◌, nat_le, Bool, true, false, if◌then◌else◌, List, [], ◌∷◌, ◌++◌, codes, map}
use Rattle.std.specs.List.{flat_map}
use Rattle.csv.specs.Records.{fields_of}
use Rattle.io_text.specs.Left.{Fields}
use Rattle.text_report.specs.declared.form.Form.{Form}
use Rattle.text_report.specs.declared.form.Form.TheVariants.{Page, Markdown}
use Rattle.text_report.specs.declared.marks.Mark.TheVariants as mark
use Rattle.text_report.specs.Marks.{mark_in}
use Rattle.text_report.specs.declared.part.Body.{Body}
use Rattle.text_report.specs.declared.part.Body.TheVariants.{Text, Records}
use Rattle.text_report.specs.declared.part.Part.{Part}
use Rattle.text_report.specs.declared.head.Head.{Head}
use Rattle.text_report.specs.declared.head.TheConstants.{MARKDOWN_TAIL, PAGE_OPENING, PAGE_STYLE, PAGE_TAIL}

-- ---- characters

-- `&` (38), `<` (60), `>` (62) and `"` (34) have names in HTML.
abbrev pub escaped_in_page : ℕ → List ℕ
escaped_in_page b =
    if b == 38 then codes "&amp;"
    else (if b == 60 then codes "&lt;" else (if b == 62 then codes "&gt;" else (if b == 34 then codes "&quot;" else b ∷ [])))

-- The characters that mean something in Markdown: `\` (92), `` ` `` (96), `*` (42), `_` (95), `<` (60), `>` (62), `[` (91), `]` (93), `|` (124), `&` (38),
-- `#` (35) and `~` (126).
abbrev pub is_sign : ℕ → Bool
is_sign b = b == 92 || b == 96 || b == 42 || b == 95 || b == 60 || b == 62 || b == 91 || b == 93 || b == 124 || b == 38 || b == 35 || b == 126

-- There a `\` stands before each of them.
abbrev pub escaped_in_markdown : ℕ → List ℕ
escaped_in_markdown b = if is_sign b then 92 ∷ b ∷ [] else b ∷ []

abbrev pub escaped : Form → ℕ → List ℕ
escaped Page b = escaped_in_page b
escaped Markdown b = escaped_in_markdown b

-- what is written for a text in which each character stands for itself
abbrev pub escaped_text : Form → List ℕ → List ℕ
escaped_text form text = flat_map (escaped form) text

-- In a text whose characters have their places, each line of Markdown is indented by four blanks; 10 is the line feed.
abbrev pub placed : Form → ℕ → List ℕ
placed Page b = escaped_in_page b
placed Markdown b = if b == 10 then codes "\n    " else b ∷ []

abbrev pub placed_text : Form → List ℕ → List ℕ
placed_text form text = flat_map (placed form) text

-- ---- tables

-- before the first cell of a row there is one with a box to tick, where the rows are ticked
abbrev pub tick : Bool → List ℕ → List ℕ
tick true mark = mark
tick false mark = []

-- a name in the heading of a table
abbrev pub name_cell : Form → List ℕ → List ℕ
name_cell form name = mark_in form mark.NameBegin ++ (escaped_text form name ++ mark_in form mark.NameEnd)

-- Below the heading, a rule for each of its names.
abbrev pub rules : Form → Bool → Fields → List ℕ
rules form ticked names =
    mark_in form mark.RulesBegin ++ (tick ticked (mark_in form mark.Rule) ++ (flat_map (λ name. mark_in form mark.Rule) names ++ mark_in form mark.RulesEnd))

abbrev pub heading_row : Form → Bool → Fields → List ℕ
heading_row form ticked names =
    mark_in form mark.NamesBegin ++ (tick ticked (mark_in form mark.NoName) ++ (flat_map (name_cell form) names ++ (mark_in form mark.NamesEnd ++ rules form ticked names)))

abbrev pub cell : Form → List ℕ → List ℕ
cell form field = mark_in form mark.CellBegin ++ (escaped_text form field ++ mark_in form mark.CellEnd)

abbrev pub record_row : Form → Bool → Fields → List ℕ
record_row form ticked fields = mark_in form mark.RowBegin ++ (tick ticked (mark_in form mark.BoxCell) ++ (flat_map (cell form) fields ++ mark_in form mark.RowEnd))

-- The first record is the heading.
abbrev pub rows_text : Form → Bool → List Fields → List ℕ
rows_text form ticked [] = []
rows_text form ticked (names ∷ rows) = heading_row form ticked names ++ flat_map (record_row form ticked) rows

-- ---- parts

-- a text whose characters have their places
abbrev pub text_body : Form → List ℕ → List ℕ
text_body form text = mark_in form mark.TextBegin ++ (placed_text form text ++ mark_in form mark.TextEnd)

-- a table of records
abbrev pub records_body : Form → Bool → List Fields → List ℕ
records_body form ticked rows = mark_in form mark.TableBegin ++ (rows_text form ticked rows ++ mark_in form mark.TableEnd)

abbrev pub body_text : Form → Body → List ℕ
body_text form (Text text) = text_body form text.now
body_text form (Records rows ticked) = records_body form ticked (map fields_of rows.now)

-- A part: its heading, what is said of it, and its body.
abbrev pub part_with : Form → List ℕ → List ℕ → List ℕ → List ℕ
part_with form heading sentence body =
    mark_in form mark.HeadingBegin ++ (escaped_text form heading ++ (mark_in form mark.HeadingEnd
    ++ (escaped_text form sentence ++ (mark_in form mark.SentenceEnd ++ (body ++ mark_in form mark.PartEnd)))))

abbrev pub part_text : Form → Part → List ℕ
part_text form part = part_with form part.heading.now part.sentence.now (body_text form part.body)

-- ---- the head and the end

-- In a style `\` (92) stands before each character but letters, digits and those that are no ASCII: numbers, capital and small letters begin at 48, 65
-- and 97.
abbrev pub is_plain : ℕ → Bool
is_plain b = (nat_le 48 b && nat_le b 57) || (nat_le 65 b && nat_le b 90) || (nat_le 97 b && nat_le b 122) || nat_le 128 b

abbrev pub quoted : ℕ → List ℕ
quoted b = if is_plain b then b ∷ [] else 92 ∷ b ∷ []

abbrev pub quoted_text : List ℕ → List ℕ
quoted_text text = flat_map quoted text

-- What stands before the title of a page, what ends it and begins the style, and what ends a report.
unfoldable pub page_opening : List ℕ
page_opening = PAGE_OPENING.now

unfoldable pub page_style : List ℕ
page_style = PAGE_STYLE.now

unfoldable pub page_tail : List ℕ
page_tail = PAGE_TAIL.now

unfoldable pub markdown_tail : List ℕ
markdown_tail = MARKDOWN_TAIL.now

-- At a margin of each sheet stands a text, with a word before it.
abbrev pub margin : List ℕ → List ℕ → List ℕ → List ℕ
margin place word text = codes "@" ++ (place ++ (codes "{content:\"" ++ (word ++ (quoted_text text ++ codes "\"}"))))

-- There stand the file, the program that wrote the report, the digest of the text, and the number of the sheet.
abbrev pub margins : Head → List ℕ
margins head =
    codes "@page{" ++ (margin (codes "top-left") [] head.file.now ++ (margin (codes "top-right") [] head.writer.now
    ++ (margin (codes "bottom-left") (codes "sha256 ") head.digest.now ++ codes "@bottom-right{content:counter(page) \" of \" counter(pages)}}\n</style>\n")))

abbrev pub page_title : Head → List ℕ
page_title head = page_opening ++ (escaped_text Page head.title.now ++ (page_style ++ (margins head ++ (codes "<h1>" ++ (escaped_text Page head.title.now ++ codes "</h1>\n")))))

abbrev pub markdown_title : List ℕ → List ℕ
markdown_title title = codes "# " ++ (escaped_text Markdown title ++ codes "\n\n")

abbrev pub title_text : Form → Head → List ℕ
title_text Page head = page_title head
title_text Markdown head = markdown_title head.title.now

abbrev pub head_text : Form → Head → List ℕ
head_text form head = title_text form head ++ mark_in form mark.FactsBegin

-- a fact: its name, and what it is
abbrev pub fact_text : Form → List ℕ → List ℕ → List ℕ
fact_text form name value =
    mark_in form mark.FactBegin ++ (escaped_text form name ++ (mark_in form mark.FactMiddle ++ (escaped_text form value ++ mark_in form mark.FactEnd)))

abbrev pub facts_end : Form → List ℕ
facts_end form = mark_in form mark.FactsEnd

-- Lines for names, dates and signatures.
abbrev pub tail_text : Form → List ℕ
tail_text Page = page_tail
tail_text Markdown = markdown_tail
