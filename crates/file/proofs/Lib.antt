-- Why the code meets the definitions, and what the definitions come to: a written file reads back, a read file is written again.
pub mod MethodLaws
pub mod WordLaws
pub mod LayoutLaws
pub mod ReadingLaws
pub mod ReadBack
pub mod WriteAgain
pub mod RoundTrips
pub mod WritingLaws
