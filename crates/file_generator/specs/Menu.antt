-- Module 0000 of a generated stream (this project's own): a page with a menu, as an entity of one part.
use Rattle.std.specs.Prelude.{ℕ, List, [], ◌∷◌, ◌++◌, codes as ascii}
use Rattle.multipart_entities.specs.Lines.{line_then}
use Rattle.carousel_writer.specs.Entities.{body_bytes, first_line}

-- the document: lines that end with LF, but for the last
abbrev pub menu_document : List ℕ
menu_document =
    ascii "<?xml version=\"1.0\" encoding=\"EUC-JP\"?>\n"
    ++ ascii "<!DOCTYPE bml PUBLIC \"+//ARIB STD-B24:1999//DTD BML Document//JA\" \"bml_1_0.dtd\">\n"
    ++ ascii "<bml><head><title>menu</title>\n"
    ++ ascii "<style><![CDATA[\n"
    ++ ascii "p { left:0px; width:200px; height:40px; color-index:7; background-color-index:1; }\n"
    ++ ascii "p:focus { background-color-index:3; }\n"
    ++ ascii "#m1 { top:0px; nav-index:0; nav-down:1; }\n"
    ++ ascii "#m2 { top:50px; nav-index:1; nav-up:0; nav-down:2; }\n"
    ++ ascii "#m3 { top:100px; nav-index:2; nav-up:1; }\n"
    ++ ascii "]]></style>\n"
    ++ ascii "<script><![CDATA[\n"
    ++ ascii "var n = 0;\n"
    ++ ascii "function down() { if (document.currentEvent.keyCode == 2) { n = n + 1; } }\n"
    ++ ascii "function pick() { document.getElementById(\"out\").firstChild.data = \"picked \" + n; }\n"
    ++ ascii "]]></script>\n"
    ++ ascii "<bevent><beitem id=\"b1\" type=\"DataButtonPressed\" subscribe=\"subscribe\" onoccur=\"pick();\"/></bevent>\n"
    ++ ascii "</head><body style=\"left:0px;top:0px;width:960px;height:540px;background-color-index:0;\">\n"
    ++ ascii "<div style=\"left:100px;top:80px;width:200px;height:150px;\">\n"
    ++ ascii "<p id=\"m1\" onkeydown=\"down();\" onclick=\"pick();\">News</p>\n"
    ++ ascii "<p id=\"m2\" onkeydown=\"down();\" onclick=\"pick();\">Weather</p>\n"
    ++ ascii "<p id=\"m3\" onkeydown=\"down();\" onclick=\"pick();\">Sport</p>\n"
    ++ ascii "</div>\n"
    ++ ascii "<p id=\"out\" style=\"left:100px;top:300px;\">-</p>\n"
    ++ ascii "</body></bml>"

-- the part, with its two header lines
abbrev pub menu_part : List ℕ
menu_part =
    line_then (ascii "Content-Type: text/X-arib-bml; charset=\"euc-jp\"")
    (line_then (ascii "Content-Location: startup.bml") (line_then [] menu_document))

-- the entity, with the boundary `b1`
abbrev pub menu_entity : List ℕ
menu_entity = line_then (first_line (ascii "b1")) (line_then [] (body_bytes (ascii "b1") (menu_part ∷ [])))
