pub mod Borrowed
pub mod HeadLaws
pub mod Moved
pub mod RankLaws
