-- What stands around the parts of a report and of a table, in each form.
use Rattle.std.specs.Prelude.{ℕ, List, [], codes}
use Rattle.text_report.specs.declared.form.Form.{Form}
use Rattle.text_report.specs.declared.form.Form.TheVariants.{Page, Markdown}
use Rattle.text_report.specs.declared.marks.Mark.{Mark}
use Rattle.text_report.specs.declared.marks.Mark.TheVariants as mark

-- in HTML
unfoldable pub in_page : Mark → List ℕ
in_page mark.HeadingBegin = codes "<section>\n<h2>"
in_page mark.HeadingEnd = codes "</h2>\n<p>"
in_page mark.SentenceEnd = codes "</p>\n"
in_page mark.PartEnd = codes "</section>\n"
in_page mark.FactsBegin = codes "<dl>\n"
in_page mark.FactBegin = codes "<dt>"
in_page mark.FactMiddle = codes "</dt><dd>"
in_page mark.FactEnd = codes "</dd>\n"
in_page mark.FactsEnd = codes "</dl>\n"
in_page mark.TextBegin = codes "<pre>\n"
in_page mark.TextEnd = codes "</pre>\n"
in_page mark.TableBegin = codes "<table>\n"
in_page mark.TableEnd = codes "</table>\n"
in_page mark.RowBegin = codes "<tr>"
in_page mark.RowEnd = codes "</tr>\n"
in_page mark.NamesBegin = codes "<thead><tr>"
in_page mark.NamesEnd = codes "</tr></thead>\n"
in_page mark.NameBegin = codes "<th>"
in_page mark.NameEnd = codes "</th>"
in_page mark.NoName = codes "<th></th>"
in_page mark.RulesBegin = []
in_page mark.Rule = []
in_page mark.RulesEnd = []
in_page mark.CellBegin = codes "<td>"
in_page mark.CellEnd = codes "</td>"
in_page mark.BoxCell = codes "<td class=box></td>"

-- in Markdown
unfoldable pub in_markdown : Mark → List ℕ
in_markdown mark.HeadingBegin = codes "## "
in_markdown mark.HeadingEnd = codes "\n\n"
in_markdown mark.SentenceEnd = codes "\n\n"
in_markdown mark.PartEnd = codes "\n"
in_markdown mark.FactsBegin = []
in_markdown mark.FactBegin = codes "- "
in_markdown mark.FactMiddle = codes ": "
in_markdown mark.FactEnd = codes "\n"
in_markdown mark.FactsEnd = codes "\n"
in_markdown mark.TextBegin = codes "    "
in_markdown mark.TextEnd = codes "\n"
in_markdown mark.TableBegin = []
in_markdown mark.TableEnd = []
in_markdown mark.RowBegin = codes "|"
in_markdown mark.RowEnd = codes "\n"
in_markdown mark.NamesBegin = codes "|"
in_markdown mark.NamesEnd = codes "\n"
in_markdown mark.NameBegin = codes " "
in_markdown mark.NameEnd = codes " |"
in_markdown mark.NoName = codes "   |"
in_markdown mark.RulesBegin = codes "|"
in_markdown mark.Rule = codes "---|"
in_markdown mark.RulesEnd = codes "\n"
in_markdown mark.CellBegin = codes " "
in_markdown mark.CellEnd = codes " |"
in_markdown mark.BoxCell = codes " \\[ \\] |"

abbrev pub mark_in : Form → Mark → List ℕ
mark_in Page m = in_page m
mark_in Markdown m = in_markdown m
